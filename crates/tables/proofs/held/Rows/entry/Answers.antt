use Rattle.table_check.specs.Given.{given as tables_in}
use Rattle.tables.proofs.Rows.{entry_row}
use Rattle.tables.proofs.held.Rows.entry.Goals as goal

pub returns : goal.returns
returns c = entry_row (tables_in c.args.self.now.source) c.args.e c.get.result _ c.get.ensures.lookup c.copied.ensures
