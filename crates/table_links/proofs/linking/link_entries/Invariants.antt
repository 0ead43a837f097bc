use Rattle.std.proofs.Common.{◌≡◌, ◌++◌, drop, vec_items}
use Rattle.index.specs.Links.{entry_links}
use Rattle.layout.proofs.Filling.{rows_entries}
use Rattle.table_check.specs.Given.{given as tables_in}
use Rattle.table_links.proofs.linking.link_entries.Given as goal

-- the links so far, with those of the rows from i on, are all
abbrev pub invariant-loop-i : goal.invariant-loop-i
invariant-loop-i l =
    vec_items l.out ++ entry_links (rows_entries (tables_in l.tables.source) l.i (drop l.i l.tables.source.nodes.now))
    ≡ vec_items l.initial.out ++ entry_links (rows_entries (tables_in l.tables.source) 0 l.tables.source.nodes.now)
