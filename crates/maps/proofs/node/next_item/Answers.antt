use Rattle.std.proofs.Common.{◌∷◌, sym, ap, ◌∙◌}
use Rattle.places.specs.Meant.{item_meant}
use Rattle.map_stages.specs.Coming.{staged, coming}
use Rattle.maps.proofs.node.next_item.Goals as goal

pub returns-in-End-clause-item : goal.returns-in-End-clause-item
returns-in-End-clause-item g c =
    let i = c.loop-next.invariant in
    let none = sym i.0 ∙ c.in-End.ensures.turned in
    (none, ap (coming (g.T.Tree.meaning c.args.tree.now) (g.F.Forms.meaning c.args.forms.now)) i.1 ∙ none)

pub returns-in-Give-clause-item : goal.returns-in-Give-clause-item
returns-in-Give-clause-item g c =
    let d = g.T.Tree.meaning c.args.tree.now in
    let fs = g.F.Forms.meaning c.args.forms.now in
    let i = c.loop-next.invariant in
    sym i.0 ∙ c.in-Give.ensures.turned ∙ (λ j. item_meant d fs c.in-Give.item ∷ staged d fs (sym i.1 j).node (sym i.1 j).form c.in-Give.next)
