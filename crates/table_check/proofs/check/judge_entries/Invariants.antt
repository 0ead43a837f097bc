use Rattle.std.proofs.Common.{◌≡◌, drop}
use Rattle.layout.specs.Tables.{entry_rows}
use Rattle.table_check.specs.Given.{given as tables_in}
use Rattle.table_check.proofs.check.judge_entries.Given as goal

abbrev pub invariant-loop-k : goal.invariant-loop-k
invariant-loop-k l = entry_rows (tables_in l.source) l.k (drop l.k l.source.entries.now) ≡ entry_rows (tables_in l.source) 0 l.source.entries.now
