use Rattle.std.proofs.Common.{vec_items, ◌∙◌, arith}
use Rattle.layout.proofs.Filling.{rows_more}
use Rattle.layout.proofs.Making.{ready}
use Rattle.table_check.specs.Given.{given as tables_in}
use Rattle.table_links.proofs.linking.link_entries.Goals as goal

pub link_node_entries-requires : goal.link_node_entries-requires
link_node_entries-requires c = (ready (tables_in c.args.tables.source) c.args.tables.accepted).rooms c.loop-i.i (omega arith)

pub loop-i-preserved : goal.loop-i-preserved
loop-i-preserved c =
    rows_more (tables_in c.args.tables.source) c.loop-i.i (vec_items c.loop-i.out) (vec_items c.link_node_entries.new.out) (omega arith) c.in_ok-link_node_entries.ensures ∙ c.loop-i.invariant
