-- What one stage gives of a node that the document has. Assumes nothing.
use Rattle.std.specs.Prelude.{◌≡◌, ℕ, List, Some, Option}
use Rattle.tree.specs.declared.handle.NodeHandle.{NodeHandle}
use Rattle.tree.specs.Document.{Nodes}
use Rattle.tree.specs.Going.{Spot, found}
use Rattle.forms.specs.Forms.{Form}
use Rattle.map_stages.specs.declared.access.Stage.{Stage}
use Rattle.map_stages.specs.declared.access.Turn.{Turn}
use Rattle.map_stages.specs.Turning.{Moves}

abbrev pub Gives : Nodes → List Form → NodeHandle → Option ℕ → Stage → Turn → Type 0
Gives d fs h form s t = (x : Spot) → found d h ≡ Some x → Moves d fs h form s t
