-- What is to come of a map that was opened. Assumes nothing.
use Rattle.std.specs.Prelude.{◌≡◌, ℕ, List, Some}
use Rattle.tree.specs.declared.handle.NodeHandle.{NodeHandle}
use Rattle.tree.specs.Document.{Nodes, listed}
use Rattle.tree.specs.Going.{Spot, found}
use Rattle.forms.specs.Forms.{Form, form_of}
use Rattle.lists.specs.Lists.{document_list, map_list, struct_list}
use Rattle.lists.specs.Placement.{Placed, Mapped, Collected}
use Rattle.map_stages.specs.declared.access.NodeMapAccess.{NodeMapAccess}
use Rattle.map_stages.specs.declared.access.DocumentMapAccess.{DocumentMapAccess}
use Rattle.map_stages.specs.Coming.{coming, document_coming}

-- of a node, as a struct with a form: the list that is defined, which places what the node has as the law says
pub record OpensStruct (d : Nodes) (fs : List Form) (h : NodeHandle) (i : ℕ) (a : NodeMapAccess) : Type 0 where
  pub list : (s : Spot) → found d h ≡ Some s → coming d fs a ≡ struct_list (form_of fs i) s.self
  pub placed : (s : Spot) → found d h ≡ Some s → Placed (form_of fs i) s.self (coming d fs a)

-- of a node, as a map
pub record OpensMap (d : Nodes) (fs : List Form) (h : NodeHandle) (a : NodeMapAccess) : Type 0 where
  pub list : (s : Spot) → found d h ≡ Some s → coming d fs a ≡ map_list s.self
  pub placed : (s : Spot) → found d h ≡ Some s → Mapped s.self (coming d fs a)

-- of the document
pub record OpensDocument (d : Nodes) (a : DocumentMapAccess) : Type 0 where
  pub list : document_coming d a ≡ document_list (listed d)
  pub placed : Collected (listed d) (document_coming d a)
