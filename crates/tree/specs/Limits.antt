-- The limits of every document that a tree means. Assumes nothing.
use Rattle.std.specs.Prelude.{ℕ, ◌^◌, ◌<◌, ◌≤◌, List, map, Some, None, Option}
use Rattle.std.specs.List.{AllByRecursion}
use Rattle.tree.specs.Document.{Ident, Value, null, string, integer, float, bool, Entry, Nodes, handle_in, head_in}
use Rattle.tree.specs.Going.{Spot, EntrySpot, all_spots, all_entries}
use Rattle.tree.specs.Numbers.{IntegerFits, SpanFits, TextFits, Rising}

pub record IdentFits (i : Ident) : Type 0 where
  pub bytes : TextFits i.bytes
  pub span : SpanFits i.span

abbrev pub PerhapsFits : Option Ident → Type 0
PerhapsFits None = Unit {0}
PerhapsFits (Some i) = IdentFits i

abbrev pub ValueFits : Value → Type 0
ValueFits null = Unit {0}
ValueFits (string bytes) = TextFits bytes
ValueFits (integer n) = IntegerFits n
ValueFits (float bits) = bits < 2 ^ 64
ValueFits (bool b) = Unit {0}

pub record EntryFits (e : Entry) : Type 0 where
  pub handle : e.handle.number < 2 ^ 32
  pub name : PerhapsFits e.name
  pub type : PerhapsFits e.type
  pub value : ValueFits e.value
  pub span : SpanFits e.span

pub record NodeFits (s : Spot) : Type 0 where
  pub handle : (handle_in s.self).number < 2 ^ 32
  pub nesting : s.nesting ≤ 32
  pub name : IdentFits (head_in s.self).name
  pub type : PerhapsFits (head_in s.self).type
  pub span : SpanFits (head_in s.self).span

abbrev pub node_numbers : List Spot → List ℕ
node_numbers ss = map (λ s. (handle_in s.self).number) ss

abbrev pub entry_numbers : List EntrySpot → List ℕ
entry_numbers ss = map (λ s. s.self.handle.number) ss

-- The handles rise in the document's order; so no two nodes, and no two entries, have one handle.
pub record Lawful (doc : Nodes) : Type 0 where
  pub nodes_rise : Rising (node_numbers (all_spots doc))
  pub entries_rise : Rising (entry_numbers (all_entries doc))
  pub nodes_fit : AllByRecursion NodeFits (all_spots doc)
  pub entries_fit : AllByRecursion (λ s. EntryFits s.self) (all_entries doc)
