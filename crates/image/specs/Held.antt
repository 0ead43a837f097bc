-- The document of an image, and the one that a tree made of it means. Assumes nothing.
use Rattle.tree.specs.Document.{Nodes}
use Rattle.linked.specs.declared.linked.Linked.{Linked}
use Rattle.linked.specs.declared.parts.Parts.{Ghosts}
use Rattle.image_format.specs.Reading.{document_in}
use Rattle.image.specs.declared.held.Bytes.{Bytes}

abbrev pub document_of : Bytes → Nodes
document_of b = document_in b.bytes.now

abbrev pub meant : {g : Ghosts Bytes} → Linked Bytes g → Nodes
meant t = document_of t.parts
