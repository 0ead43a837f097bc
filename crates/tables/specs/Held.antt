-- The document of tables, and the one that a tree made of them means. Assumes nothing.
use Rattle.tree.specs.Document.{Nodes}
use Rattle.linked.specs.declared.linked.Linked.{Linked}
use Rattle.linked.specs.declared.parts.Parts.{Ghosts}
use Rattle.layout.specs.Tables.{document}
use Rattle.table_check.specs.Given.{given}
use Rattle.tables.specs.declared.held.Rows.{Rows}

abbrev pub document_of : Rows → Nodes
document_of rows = document (given rows.source)

abbrev pub meant : {g : Ghosts Rows} → Linked Rows g → Nodes
meant t = document_of t.parts
