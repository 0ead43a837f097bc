use Rattle.std.proofs.Common.{◌++◌, codes, rules}
use Rattle.std.proofs.lemmas.Slice.Eq.{strip_suffix_is}
use Rattle.std.proofs.lemmas.Bool.Decides.{Decides-eqb}
use Rattle.forms.proofs.Sames.{before}
use Rattle.forms.proofs.compare.is_property_type.Goals as goal

pub returns : goal.returns
returns c =
    let s = c.args.name.now in
    let o = c.strip_suffix.result in
    before _ s (codes "#type") (codes "#@" ++ c.args.part.now) o _ (strip_suffix_is Decides-eqb s (codes "#type") o c.strip_suffix.ensures.cases) (λ x told. search rules)
    c.is_some_and.ensures
