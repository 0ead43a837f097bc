use Rattle.std.proofs.Common.{ap, ◌∙◌}
use Rattle.tree.specs.Document.{head_in}
use Rattle.tree.specs.Going.{Spot, then, first_of}
use Rattle.map_stages.proofs.Opens.{opens_map}
use Rattle.maps.proofs.opening.open_map.Goals as goal

pub returns : goal.returns
returns g c = λ fs.
    opens_map (g.T.Tree.meaning c.args.tree.now) (g.T.Tree.lawful c.args.tree.now) fs c.args.node c.first_entry.result
    (λ s is. c.first_entry.ensures ∙ ap (λ o. then o (λ (z : Spot). first_of (head_in z.self).entries)) is)
