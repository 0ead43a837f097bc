use Rattle.std.proofs.Common.{◌≡◌}
use Rattle.map_stages.specs.Coming.{staged, coming}
use Rattle.map_stages.specs.Turning.{left}
use Rattle.maps.proofs.node.next_item.Given as goal

-- what is to come at this stage is what was to come at first
abbrev pub invariant-loop-next : goal.invariant-loop-next
invariant-loop-next g l =
    (staged (g.T.Tree.meaning l.tree) (g.F.Forms.meaning l.forms) l.map.node l.map.form l.stage ≡ coming (g.T.Tree.meaning l.tree) (g.F.Forms.meaning l.forms) l.initial.access)
    × (l.access ≡ l.initial.access)

abbrev pub decreases-loop-next : goal.decreases-loop-next
decreases-loop-next g l = left (g.T.Tree.meaning l.tree) (g.F.Forms.meaning l.forms) l.map.node l.map.form l.stage
