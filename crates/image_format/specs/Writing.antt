-- The bytes that a document is written as, and its handles. Assumes nothing.
use Rattle.std.specs.Prelude.{◌≡◌, ℕ, ◌+◌, ◌^◌, ◌<◌, cond, List, [], ◌∷◌, ◌++◌, length, Some, None, Option}
use Rattle.std.specs.List.{AllByRecursion}
use Rattle.tree.specs.declared.span.Span.{Span}
use Rattle.tree.specs.Document.{Ident, Value, null, string, integer, float, bool, Entry, Head, Node, node, Block, block, no_block, Nodes, nil, cons}
use Rattle.tree.specs.Numbers.{SpanFits, IntegerFits}
use Rattle.records.specs.Numbers.{low}
use Rattle.records.specs.Records.{record_of}
use Rattle.image_format.specs.Signed.{unsigned}

unfoldable pub span_of : Span → List ℕ
span_of s = low 4 s.start ++ low 4 s.length

-- a name is of kind 3, a type of kind 4
unfoldable pub ident_of : ℕ → Ident → List ℕ
ident_of kind i = record_of kind (span_of i.span ++ i.bytes)

abbrev pub perhaps_of : ℕ → Option Ident → List ℕ
perhaps_of kind None = []
perhaps_of kind (Some i) = ident_of kind i

unfoldable pub value_of : Value → List ℕ
value_of (string bytes) = record_of 7 bytes
value_of (integer n) = record_of 8 (low 8 n.low ++ low 8 (unsigned n.high))
value_of (float bits) = record_of 9 (low 8 bits)
value_of (bool b) = record_of 10 (cond b 1 0 ∷ [])
value_of null = record_of 11 []

-- an argument is of kind 5, a property of kind 6
abbrev pub entry_kind : Option Ident → ℕ
entry_kind None = 5
entry_kind (Some i) = 6

unfoldable pub entry_of : Entry → List ℕ
entry_of e = record_of (entry_kind e.name) (span_of e.span ++ (perhaps_of 3 e.name ++ (perhaps_of 4 e.type ++ value_of e.value)))

abbrev pub entries_of : List Entry → List ℕ
entries_of [] = []
entries_of (e ∷ es) = entry_of e ++ entries_of es

-- span, name and type of a node
abbrev pub front_of : Head → List ℕ
front_of head = span_of head.span ++ (ident_of 3 head.name ++ perhaps_of 4 head.type)

abbrev mutual
  pub nodes_of : Nodes → List ℕ
  nodes_of nil = []
  nodes_of (cons n ns) = node_of n ++ nodes_of ns

  pub node_of : Node → List ℕ
  node_of (node h head b) = record_of 2 (front_of head ++ (entries_of head.entries ++ block_of b))

  pub block_of : Block → List ℕ
  block_of no_block = []
  block_of (block ns) = record_of 1 (nodes_of ns)

abbrev pub image_of : Nodes → List ℕ
image_of ns = record_of 1 (nodes_of ns)

-- the handles are the offsets of the records, from at on
abbrev pub EntriesStand : ℕ → List Entry → Type 0
EntriesStand at [] = Unit {0}
EntriesStand at (e ∷ es) = (e.handle ≡ record { number = at }) × EntriesStand (at + length (entry_of e)) es

abbrev mutual
  pub Stand : ℕ → Nodes → Type 0
  Stand at nil = Unit {0}
  Stand at (cons n ns) = NodeStands at n × Stand (at + length (node_of n)) ns

  pub NodeStands : ℕ → Node → Type 0
  NodeStands at (node h head b) =
      let inner = at + 6 + length (front_of head) in
      (h ≡ record { number = at })
      × EntriesStand inner head.entries
      × BlockStands (inner + length (entries_of head.entries)) b

  pub BlockStands : ℕ → Block → Type 0
  BlockStands at no_block = Unit {0}
  BlockStands at (block ns) = Stand (at + 6) ns

-- the numbers fit the bytes that are there for them
abbrev pub PerhapsFits : Option Ident → Type 0
PerhapsFits None = Unit {0}
PerhapsFits (Some i) = SpanFits i.span

abbrev pub ValueFits : Value → Type 0
ValueFits null = Unit {0}
ValueFits (string bytes) = Unit {0}
ValueFits (integer n) = IntegerFits n
ValueFits (float bits) = bits < 2 ^ 64
ValueFits (bool b) = Unit {0}

pub record EntryFits (e : Entry) : Type 0 where
  pub name : PerhapsFits e.name
  pub type : PerhapsFits e.type
  pub value : ValueFits e.value
  pub span : SpanFits e.span

pub record HeadFits (h : Head) : Type 0 where
  pub name : SpanFits h.name.span
  pub type : PerhapsFits h.type
  pub span : SpanFits h.span
  pub entries : AllByRecursion EntryFits h.entries

abbrev mutual
  pub Fit : Nodes → Type 0
  Fit nil = Unit {0}
  Fit (cons n ns) = NodeFits n × Fit ns

  pub NodeFits : Node → Type 0
  NodeFits (node h head b) = HeadFits head × BlockFits b

  pub BlockFits : Block → Type 0
  BlockFits no_block = Unit {0}
  BlockFits (block ns) = Fit ns
