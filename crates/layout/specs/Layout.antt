-- A document laid out as tables. Assumes nothing.
use Rattle.std.specs.Prelude.{◌≡◌, ℕ, suc, ◌+◌, ◌≤◌, Bool, true, List, [], ◌∷◌, length, Ok, Err, Result}
use Rattle.std.specs.List.{AllByRecursion}
use Rattle.tree.specs.declared.handle.NodeHandle.{NodeHandle}
use Rattle.tree.specs.Document.{Head, Nodes, nil, handle_in, head_in, block_in, is_block}
use Rattle.tree.specs.Going.{Spot, spots_in, all_spots, all_entries}
use Rattle.layout.specs.Rows.{Tables, in_text, perhaps_in_text, value_known, head}
use Rattle.tree.specs.Counts.{counts_of}
use Rattle.layout.specs.Tables.{read, document}
use Rattle.layout.specs.Laid.{laid_out, Fits}
use Rattle.layout.specs.declared.rows.NodeRow.{NodeRow}
use Rattle.layout.specs.declared.rows.EntryRow.{EntryRow}
use Rattle.layout.specs.declared.fault.TableFault.{TableFault}
use Rattle.tree.specs.declared.counts.Counts.{Counts}

-- what a node row says, with bytes in the place of parts of the text, and entries in the place of entry rows
pub record Says : Type 0 where
  pub handle : NodeHandle
  pub head : Head
  pub start : ℕ
  pub count : ℕ
  pub block : Bool
  pub below : ℕ

abbrev pub row_says : Tables → ℕ → NodeRow → Says
row_says t i r = record { handle = record { number = i }; head = head t r; start = r.entries_start; count = r.entries_count; block = r.block; below = r.below }

abbrev pub rows_say : Tables → ℕ → List NodeRow → List Says
rows_say t i [] = []
rows_say t i (r ∷ rs) = row_says t i r ∷ rows_say t (suc i) rs

-- the row of a node with k entries before its own
abbrev pub node_says : ℕ → Spot → Says
node_says k s = record { handle = handle_in s.self; head = head_in s.self; start = k; count = length (head_in s.self).entries; block = is_block (block_in s.self); below = length (spots_in s.nesting s.self) }

-- one row to a node, in the document's order
abbrev pub nodes_say : ℕ → List Spot → List Says
nodes_say k [] = []
nodes_say k (s ∷ ss) = node_says k s ∷ nodes_say (k + length (head_in s.self).entries) ss

pub record NodeParts (bs : List ℕ) (r : NodeRow) : Type 0 where
  pub name : in_text bs r.name.part ≡ true
  pub type : perhaps_in_text bs r.ty ≡ true

pub record EntryParts (bs : List ℕ) (e : EntryRow) : Type 0 where
  pub name : perhaps_in_text bs e.name ≡ true
  pub type : perhaps_in_text bs e.ty ≡ true
  pub value : value_known bs e.value ≡ true

-- t is doc laid out as tables, within the limits
pub record Laid (t : Tables) (doc : Nodes) : Type 0 where
  -- the node rows are the nodes, numbered from 0, each with the next of the entry rows
  pub nodes : rows_say t 0 t.nodes ≡ nodes_say 0 (all_spots doc)
  -- and every entry row is some node's
  pub entries : length (all_entries doc) ≡ length t.entries
  pub node_parts : AllByRecursion (NodeParts t.text) t.nodes
  pub entry_parts : AllByRecursion (EntryParts t.text) t.entries
  pub nesting : AllByRecursion (λ s. s.nesting ≤ 32) (all_spots doc)
  pub few_nodes : length t.nodes ≤ 65535
  pub few_entries : length t.entries ≤ 65535
  pub short_text : length t.text ≤ 1048576

-- what is read from tables is the document that they lay out, and there is no other
abbrev pub Law : Type 0
Law = (t : Tables) (doc : Nodes) → (read t ≡ Ok doc → Laid t doc) × (Laid t doc → read t ≡ Ok doc)

-- tables lay out at most one document
abbrev pub Unique : Tables → Type 0
Unique t = (a b : Nodes) → Laid t a → Laid t b → a ≡ b

-- tables are accepted, with the counts of their document, exactly if they lay one out
abbrev pub Exact : Tables → Result Counts TableFault → Type 0
Exact t (Ok c) = (doc : Nodes) × Laid t doc × (c ≡ counts_of doc)
Exact t (Err e) = (doc : Nodes) → Laid t doc → ⊥

-- what is made of tables is the document that they lay out, or the empty one
pub record Made (t : Tables) (doc : Nodes) : Type 0 where
  pub is : doc ≡ document t
  pub sound : (laid : Nodes) → Laid t laid → doc ≡ laid
  pub unsound : ((laid : Nodes) → Laid t laid → ⊥) → doc ≡ nil
  -- laying a document out and reading it back gives the document
  pub back : (d : Nodes) → Fits d → t ≡ laid_out d → doc ≡ d
