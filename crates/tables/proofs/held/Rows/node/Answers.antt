use Rattle.table_check.specs.Given.{given as tables_in}
use Rattle.tables.proofs.Rows.{node_row}
use Rattle.tables.proofs.held.Rows.node.Goals as goal

pub returns : goal.returns
returns c = node_row (tables_in c.args.self.now.source) c.args.n c.get.result _ c.get.ensures.lookup c.copied.ensures
