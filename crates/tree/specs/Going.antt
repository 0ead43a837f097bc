-- What each call of a tree answers. Assumes nothing.
use Rattle.std.specs.Prelude.{ℕ, suc, cond, List, [], ◌∷◌, ◌++◌, Some, None, Option, ◌==◌}
use Rattle.tree.specs.declared.handle.NodeHandle.{NodeHandle}
use Rattle.tree.specs.declared.handle.EntryHandle.{EntryHandle}
use Rattle.tree.specs.declared.span.Span.{Span}
use Rattle.tree.specs.Document as document
use Rattle.tree.specs.Document.{Ident, Value, Entry, Head, Node, node, Block, no_block, Nodes, nil, cons, handle_in, head_in, block_in, listed}

-- a node where it stands: its siblings before and after it, the node that holds it, and its nesting
pub record Spot : Type 0 where
  pub before : List Node
  pub self : Node
  pub after : List Node
  pub parent : Option NodeHandle
  pub nesting : ℕ

-- every node from these siblings on, each followed by the nodes of its block
unfoldable mutual
  pub spots : ℕ → Option NodeHandle → List Node → Nodes → List Spot
  spots d p before nil = []
  spots d p before (cons n ns) =
      record { before = before; self = n; after = listed ns; parent = p; nesting = d }
      ∷ (spots_in d n ++ spots d p (before ++ n ∷ []) ns)

  pub spots_in : ℕ → Node → List Spot
  spots_in d (node h head b) = spots_of (suc d) (Some h) b

  pub spots_of : ℕ → Option NodeHandle → Block → List Spot
  spots_of d p no_block = []
  spots_of d p (document.block ns) = spots d p [] ns

-- all nodes in the document's order; a top node has nesting 1
abbrev pub all_spots : Nodes → List Spot
all_spots doc = spots 1 None [] doc

abbrev pub find_spot : List Spot → ℕ → Option Spot
find_spot [] n = None
find_spot (s ∷ ss) n = cond ((handle_in s.self).number == n) (Some s) (find_spot ss n)

-- the node with a handle; None where the document has no such node
abbrev pub found : Nodes → NodeHandle → Option Spot
found doc h = find_spot (all_spots doc) h.number

-- an entry where it stands: the entries after it in its node, and the node
pub record EntrySpot : Type 0 where
  pub self : Entry
  pub after : List Entry
  pub node : NodeHandle

abbrev pub entries_from : NodeHandle → List Entry → List EntrySpot
entries_from h [] = []
entries_from h (e ∷ es) = record { self = e; after = es; node = h } ∷ entries_from h es

abbrev pub entries_at : Spot → List EntrySpot
entries_at s = entries_from (handle_in s.self) (head_in s.self).entries

abbrev pub entries_of : List Spot → List EntrySpot
entries_of [] = []
entries_of (s ∷ ss) = entries_at s ++ entries_of ss

-- all entries in the document's order
abbrev pub all_entries : Nodes → List EntrySpot
all_entries doc = entries_of (all_spots doc)

abbrev pub find_entry : List EntrySpot → ℕ → Option EntrySpot
find_entry [] n = None
find_entry (s ∷ ss) n = cond (s.self.handle.number == n) (Some s) (find_entry ss n)

-- the entry with a handle; None where the document has no such entry
abbrev pub found_entry : Nodes → EntryHandle → Option EntrySpot
found_entry doc h = find_entry (all_entries doc) h.number

abbrev pub then : {X Y : Type 0} → Option X → (X → Option Y) → Option Y
then None f = None
then (Some x) f = f x

abbrev pub first : List Node → Option NodeHandle
first [] = None
first (n ∷ ns) = Some (handle_in n)

abbrev pub first_of : List Entry → Option EntryHandle
first_of [] = None
first_of (e ∷ es) = Some e.handle

-- None without a block, else the block's first node, if it has one
abbrev pub first_in : Block → Option (Option NodeHandle)
first_in no_block = None
first_in (document.block ns) = Some (first (listed ns))

abbrev pub first_node : Nodes → Option NodeHandle
first_node doc = first (listed doc)

abbrev pub next_sibling : Nodes → NodeHandle → Option NodeHandle
next_sibling doc n = then (found doc n) (λ s. first s.after)

abbrev pub parent : Nodes → NodeHandle → Option NodeHandle
parent doc n = then (found doc n) (λ s. s.parent)

abbrev pub block : Nodes → NodeHandle → Option (Option NodeHandle)
block doc n = then (found doc n) (λ s. first_in (block_in s.self))

abbrev pub first_entry : Nodes → NodeHandle → Option EntryHandle
first_entry doc n = then (found doc n) (λ s. first_of (head_in s.self).entries)

abbrev pub name : Nodes → NodeHandle → Option Ident
name doc n = then (found doc n) (λ s. Some (head_in s.self).name)

abbrev pub node_type : Nodes → NodeHandle → Option Ident
node_type doc n = then (found doc n) (λ s. (head_in s.self).type)

abbrev pub node_span : Nodes → NodeHandle → Option Span
node_span doc n = then (found doc n) (λ s. Some (head_in s.self).span)

abbrev pub next_entry : Nodes → EntryHandle → Option EntryHandle
next_entry doc e = then (found_entry doc e) (λ s. first_of s.after)

abbrev pub node_of : Nodes → EntryHandle → Option NodeHandle
node_of doc e = then (found_entry doc e) (λ s. Some s.node)

abbrev pub entry_name : Nodes → EntryHandle → Option Ident
entry_name doc e = then (found_entry doc e) (λ s. s.self.name)

abbrev pub entry_type : Nodes → EntryHandle → Option Ident
entry_type doc e = then (found_entry doc e) (λ s. s.self.type)

abbrev pub entry_value : Nodes → EntryHandle → Option Value
entry_value doc e = then (found_entry doc e) (λ s. Some s.self.value)

abbrev pub entry_span : Nodes → EntryHandle → Option Span
entry_span doc e = then (found_entry doc e) (λ s. Some s.self.span)
