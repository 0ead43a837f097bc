-- What stands with a node or an entry: siblings, children, entries. Assumes nothing.
use Rattle.std.specs.Prelude.{List, [], ◌∷◌, map, drop, Some, None, Option}
use Rattle.tree.specs.declared.handle.NodeHandle.{NodeHandle}
use Rattle.tree.specs.declared.handle.EntryHandle.{EntryHandle}
use Rattle.tree.specs.Document.{Entry, Node, Nodes, handle_in, head_in, block_in, within, listed}
use Rattle.tree.specs.Going.{Spot, EntrySpot, found, found_entry}

abbrev pub row_of : Option Spot → List Node
row_of None = []
row_of (Some s) = s.self ∷ s.after

-- the node with a handle, and its siblings after it; none where there is no such node
abbrev pub row : Nodes → Option NodeHandle → List Node
row d None = []
row d (Some h) = row_of (found d h)

-- the handles from one on; the first may be no node's
abbrev pub nodes_from : Nodes → Option NodeHandle → List NodeHandle
nodes_from d None = []
nodes_from d (Some h) = h ∷ map handle_in (drop 1 (row d (Some h)))

abbrev pub earlier_of : Option Spot → List Node
earlier_of None = []
earlier_of (Some s) = s.before

-- its siblings before it
abbrev pub earlier : Nodes → Option NodeHandle → List Node
earlier d None = []
earlier d (Some h) = earlier_of (found d h)

abbrev pub inner_of : Option Spot → List Node
inner_of None = []
inner_of (Some s) = listed (within (block_in s.self))

-- the nodes in the block of a node
abbrev pub inner : Nodes → NodeHandle → List Node
inner d h = inner_of (found d h)

-- the nodes that a node holds, or the document
abbrev pub held_by : Nodes → Option NodeHandle → List Node
held_by d None = listed d
held_by d (Some p) = inner d p

abbrev pub entry_row_of : Option EntrySpot → List Entry
entry_row_of None = []
entry_row_of (Some s) = s.self ∷ s.after

-- the entry with a handle, and those after it in its node
abbrev pub entry_row : Nodes → Option EntryHandle → List Entry
entry_row d None = []
entry_row d (Some e) = entry_row_of (found_entry d e)

-- the handles from one on; the first may be no entry's
abbrev pub entries_from : Nodes → Option EntryHandle → List EntryHandle
entries_from d None = []
entries_from d (Some e) = e ∷ map (λ (x : Entry). x.handle) (drop 1 (entry_row d (Some e)))

abbrev pub entries_of : Option Spot → List Entry
entries_of None = []
entries_of (Some s) = (head_in s.self).entries

-- the entries of a node
abbrev pub entries : Nodes → NodeHandle → List Entry
entries d h = entries_of (found d h)
