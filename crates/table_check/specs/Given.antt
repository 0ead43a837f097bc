-- The tables that a source hands in. Assumes nothing.
use Rattle.layout.specs.Rows.{Tables, tables}
use Rattle.table_check.specs.declared.source.Source.{Source}

abbrev pub given : Source → Tables
given s = tables s.text.now s.nodes.now s.entries.now
