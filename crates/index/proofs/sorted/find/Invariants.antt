use Rattle.std.proofs.Common.{◌-◌, ◌≤◌, length}
use Rattle.index.specs.Keys.{keys}
use Rattle.index.proofs.Searching.{Between}
use Rattle.index.proofs.sorted.find.Given as goal

abbrev pub invariant-loop-low : goal.invariant-loop-low
invariant-loop-low g l = (l.low ≤ l.high) × (l.high ≤ length l.items) × Between (keys l.items) l.key l.low l.high

abbrev pub decreases-loop-low : goal.decreases-loop-low
decreases-loop-low g l = l.high - l.low
