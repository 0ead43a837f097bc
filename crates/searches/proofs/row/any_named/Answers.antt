use Rattle.std.proofs.Common.{rules, tests, refl}
use Rattle.std.proofs.lemmas.Iterator.Search.{any_from_yields_List}
use Rattle.std.proofs.lemmas.Iterator.Consumers.{YieldsList-from_first}
use Rattle.searches.specs.Searches.{ident_is}
use Rattle.searches.proofs.row.any_named.Goals as goal

pub returns : goal.returns
returns g c =
    let d = g.T.Tree.meaning c.args.tree.now in
    any_from_yields_List (λ h. ident_is (g.H.Handle.name d h) c.args.name.now) c.any.new.self _ _ c.any.ensures.ran
    (YieldsList-from_first (λ x. x) _ (g.H.Handle.handles d c.args.start) refl) (λ x b q k. search (rules, tests))
