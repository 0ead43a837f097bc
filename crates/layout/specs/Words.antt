-- The words for tables, causes and faults. Assumes nothing.
use Rattle.std.specs.Prelude.{ℕ, List, ◌++◌, codes}
use Rattle.std.specs.Fmt.{decimal}
use Rattle.layout.specs.declared.fault.Table.{Table}
use Rattle.layout.specs.declared.fault.Table.TheVariants as table
use Rattle.layout.specs.declared.fault.Cause.{Cause}
use Rattle.layout.specs.declared.fault.Cause.TheVariants as cause
use Rattle.layout.specs.declared.fault.TableFault.{TableFault}

abbrev pub table_text : Table → List ℕ
table_text table.Nodes = codes "nodes"
table_text table.Entries = codes "entries"
table_text table.Text = codes "text"

abbrev pub cause_text : Cause → List ℕ
cause_text cause.Limit = codes "limit"
cause_text cause.Name = codes "name"
cause_text cause.Type = codes "type"
cause_text cause.Value = codes "value"
cause_text cause.Entries = codes "entries"
cause_text cause.Size = codes "size"
cause_text cause.Nesting = codes "nesting"

abbrev pub fault_text : TableFault → List ℕ
fault_text f = codes "table " ++ (table_text f.table ++ (codes ", row " ++ (decimal f.row ++ (codes ", cause " ++ cause_text f.cause))))
