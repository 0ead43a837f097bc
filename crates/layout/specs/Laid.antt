-- The tables that a document is laid out as. Assumes nothing.
use Rattle.std.specs.Prelude.{◌≡◌, ℕ, suc, ◌+◌, ◌≤◌, List, [], ◌∷◌, ◌++◌, length, Some, None, Option}
use Rattle.std.specs.List.{AllByRecursion}
use Rattle.tree.specs.Document.{Ident, Value, null, string, integer, float, bool, Entry, Head, Nodes, handle_in, head_in, block_in, is_block}
use Rattle.tree.specs.Going.{Spot, spots_in, all_spots}
use Rattle.layout.specs.Rows.{Tables, tables}
use Rattle.layout.specs.declared.rows.Part.{Part}
use Rattle.layout.specs.declared.rows.IdentRow.{IdentRow}
use Rattle.layout.specs.declared.rows.NodeRow.{NodeRow}
use Rattle.layout.specs.declared.rows.EntryRow.{EntryRow}
use Rattle.layout.specs.declared.rows.ValueRow.{ValueRow}
use Rattle.layout.specs.declared.rows.ValueRow.TheVariants.{Null, String, Integer, Float, Bool as Truth}

-- the bytes that stand in the text for a name, a type or a value
abbrev pub perhaps_text : Option Ident → List ℕ
perhaps_text None = []
perhaps_text (Some i) = i.bytes

abbrev pub value_text : Value → List ℕ
value_text null = []
value_text (string bs) = bs
value_text (integer n) = []
value_text (float x) = []
value_text (bool b) = []

-- and the rows that say so, where these bytes stand from at on
abbrev pub part_at : ℕ → List ℕ → Part
part_at at bs = record { start = at; length = length bs }

abbrev pub ident_row : ℕ → Ident → IdentRow
ident_row at i = record { part = part_at at i.bytes; span = i.span }

abbrev pub perhaps_row : ℕ → Option Ident → Option IdentRow
perhaps_row at None = None
perhaps_row at (Some i) = Some (ident_row at i)

abbrev pub value_row : ℕ → Value → ValueRow
value_row at null = Null
value_row at (string bs) = String (part_at at bs)
value_row at (integer n) = Integer n
value_row at (float x) = Float x
value_row at (bool b) = Truth b

-- an entry: its name, its type, its value
abbrev pub entry_text : Entry → List ℕ
entry_text e = perhaps_text e.name ++ (perhaps_text e.type ++ value_text e.value)

abbrev pub entry_row : ℕ → Entry → EntryRow
entry_row at e =
    let types = at + length (perhaps_text e.name) in
    record {
      name = perhaps_row at e.name;
      ty = perhaps_row types e.type;
      value = value_row (types + length (perhaps_text e.type)) e.value;
      span = e.span;
    }

abbrev pub entries_text : List Entry → List ℕ
entries_text [] = []
entries_text (e ∷ es) = entry_text e ++ entries_text es

abbrev pub entry_rows : ℕ → List Entry → List EntryRow
entry_rows at [] = []
entry_rows at (e ∷ es) = entry_row at e ∷ entry_rows (at + length (entry_text e)) es

-- a node: its name, its type; it has k entries before its own
abbrev pub node_text : Head → List ℕ
node_text h = h.name.bytes ++ perhaps_text h.type

abbrev pub node_row : ℕ → ℕ → Spot → NodeRow
node_row at k s =
    let h = head_in s.self in
    record {
      name = ident_row at h.name;
      ty = perhaps_row (at + length h.name.bytes) h.type;
      span = h.span;
      entries_start = k;
      entries_count = length h.entries;
      block = is_block (block_in s.self);
      below = length (spots_in s.nesting s.self);
    }

abbrev pub nodes_text : List Spot → List ℕ
nodes_text [] = []
nodes_text (s ∷ ss) = node_text (head_in s.self) ++ nodes_text ss

abbrev pub node_rows : ℕ → ℕ → List Spot → List NodeRow
node_rows at k [] = []
node_rows at k (s ∷ ss) = node_row at k s ∷ node_rows (at + length (node_text (head_in s.self))) (k + length (head_in s.self).entries) ss

-- the entries of the nodes, one node's behind the other's
abbrev pub own_entries : List Spot → List Entry
own_entries [] = []
own_entries (s ∷ ss) = (head_in s.self).entries ++ own_entries ss

-- one row to a node and one to an entry, in the document's order; the text of the nodes, and behind it that of the entries
abbrev pub laid_out : Nodes → Tables
laid_out doc =
    let ss = all_spots doc in
    let es = own_entries ss in
    tables (nodes_text ss ++ entries_text es) (node_rows 0 0 ss) (entry_rows (length (nodes_text ss)) es)

-- nodes that are numbered from i on, and entries from k on
abbrev pub NodesNumbered : ℕ → List Spot → Type 0
NodesNumbered i [] = Unit {0}
NodesNumbered i (s ∷ ss) = (handle_in s.self ≡ record { number = i }) × NodesNumbered (suc i) ss

abbrev pub EntriesNumbered : ℕ → List Entry → Type 0
EntriesNumbered k [] = Unit {0}
EntriesNumbered k (e ∷ es) = (e.handle ≡ record { number = k }) × EntriesNumbered (suc k) es

-- a document that tables have room for: numbered in its order from 0, within the limits
pub record Fits (doc : Nodes) : Type 0 where
  pub nodes : NodesNumbered 0 (all_spots doc)
  pub entries : EntriesNumbered 0 (own_entries (all_spots doc))
  pub nesting : AllByRecursion (λ s. s.nesting ≤ 32) (all_spots doc)
  pub few_nodes : length (all_spots doc) ≤ 65535
  pub few_entries : length (own_entries (all_spots doc)) ≤ 65535
  pub short_text : length (laid_out doc).text ≤ 1048576
