use Rattle.std.proofs.Common.{◌-◌, ◌≤◌, length}
use Rattle.index.specs.Keys.{keys}
use Rattle.index.proofs.Searching.{RisingTo}
use Rattle.index.proofs.sorted.rises.Given as goal

abbrev pub invariant-loop-i : goal.invariant-loop-i
invariant-loop-i g l = (1 ≤ l.i) × RisingTo (keys l.items) l.i

abbrev pub decreases-loop-i : goal.decreases-loop-i
decreases-loop-i g l = length l.items - l.i
