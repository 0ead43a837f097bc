use Rattle.std.proofs.Common.{◌≡◌}
use Rattle.searches.specs.Searches.{groups_at}
use Rattle.searches.proofs.Turns.{steps}
use Rattle.searches.proofs.Sought.{Sought}
use Rattle.searches.proofs.next_group.Given as goal

abbrev pub invariant-earlier : goal.invariant-earlier
invariant-earlier g l = Sought (g.T.Tree.meaning l.tree) l.h l.name.bytes.now l.before

abbrev pub decreases-earlier : goal.decreases-earlier
decreases-earlier g l = steps (g.T.Tree.meaning l.tree) l.before

abbrev pub invariant-nodes : goal.invariant-nodes
invariant-nodes g l = let d = g.T.Tree.meaning l.tree in groups_at d l.initial.at ≡ groups_at d l.at

abbrev pub decreases-nodes : goal.decreases-nodes
decreases-nodes g l = steps (g.T.Tree.meaning l.tree) l.at
