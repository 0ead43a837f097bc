use Rattle.std.proofs.Common.{◌≡◌, ◌-◌, ◌++◌, vec_items}
use Rattle.tree.specs.Going.{entries_from}
use Rattle.index.specs.Links.{entry_links}
use Rattle.layout.specs.Rows.{picked}
use Rattle.table_check.specs.Given.{given as tables_in}
use Rattle.table_links.proofs.linking.link_node_entries.Given as goal

-- the links so far, with those of the rows from k on, are all
abbrev pub invariant-loop-k : goal.invariant-loop-k
invariant-loop-k l =
    vec_items l.out ++ entry_links (entries_from l.node (picked (tables_in l.tables.source) l.k (l.end - l.k)))
    ≡ vec_items l.initial.out ++ entry_links (entries_from l.node (picked (tables_in l.tables.source) l.start l.count))
