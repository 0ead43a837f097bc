use Rattle.std.proofs.Common.{rules, tests, refl, sym, ◌∙◌}
use Rattle.std.proofs.lemmas.Iterator.Adapters.{option_map_id}
use Rattle.std.proofs.lemmas.Iterator.Search.{find_from_yields_List}
use Rattle.std.proofs.lemmas.Iterator.Consumers.{YieldsList-from_first}
use Rattle.searches.specs.Searches.{ident_is}
use Rattle.searches.proofs.row.find_named.Goals as goal

pub returns : goal.returns
returns g c =
    let d = g.T.Tree.meaning c.args.tree.now in
    sym (option_map_id _) ∙ find_from_yields_List (λ h. ident_is (g.H.Handle.name d h) c.args.name.now) c.find.new.self _ c.find.result c.find.ensures.ran
    (YieldsList-from_first (λ x. x) _ (g.H.Handle.handles d c.args.start) refl) (λ x b q k. search (rules, tests))
