use Rattle.std.proofs.Common.{◌≡◌, true, take}
use Rattle.layout.specs.Typed.{each}
use Rattle.table_links.proofs.typed.note_all.Given as goal

abbrev pub invariant-loop-row : goal.invariant-loop-row
invariant-loop-row g l = each g.T.Typed.typed (take l.row-index l.rows) ≡ true
