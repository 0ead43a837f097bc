-- What loading an image gives. Assumes nothing.
use Rattle.std.specs.Prelude.{◌≡◌, ℕ, List, Ok, Err, Result}
use Rattle.tree.specs.Document.{Nodes}
use Rattle.image_format.specs.Reading.{image}
use Rattle.image_format.specs.Law.{Exact}
use Rattle.linked.specs.declared.linked.Linked.{Linked}
use Rattle.linked.specs.declared.parts.Parts.{Ghosts}
use Rattle.image.specs.declared.held.Bytes.{Bytes}
use Rattle.image.specs.Held.{meant}
use Rattle.image_load.specs.declared.fault.LoadFault.{LoadFault}
use Rattle.image_load.specs.declared.fault.LoadFault.TheVariants as fault

-- the tree of the document that the bytes are the writing of; the first fault where they are none's; or memory is wanting for a document
abbrev pub Loaded : {g : Ghosts Bytes} → List ℕ → Result (Linked Bytes g) LoadFault → Type 0
Loaded bs (Ok t) = Exact bs (meant t)
Loaded bs (Err (fault.Image c)) = image bs ≡ Err c
Loaded bs (Err fault.Memory) = (doc : Nodes) × Exact bs doc
