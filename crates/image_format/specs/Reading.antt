-- The document that bytes hold, or their first fault. Assumes nothing.
use Rattle.std.specs.Prelude.{ℕ, zero, suc, ◌+◌, Bool, true, false, cond, ◌||◌, List, [], ◌∷◌, length, take, drop, Some, None, Ok, Err, Option, Result, ◌==◌, nat_le, nat_lt}
use Rattle.tree.specs.declared.span.Span.{Span}
use Rattle.tree.specs.Document.{Ident, Value, null, string, integer, float, bool, Entry, Head, Node, node, Block, block, no_block, Nodes, nil, cons}
use Rattle.tree.specs.Outcome.{and_then}
use Rattle.records.specs.Numbers.{number}
use Rattle.records.specs.Records.{none}
pub use Rattle.records.specs.Places.{Place, Part, Read, fault, located, next, placed, start}
unfoldable pub use Rattle.records.specs.Places.{part, part_of}
use Rattle.records.specs.declared.fault.Cause.{Cause}
use Rattle.records.specs.declared.fault.Cause.TheVariants.{Size, Kind, Nesting, Body, After}
use Rattle.image_format.specs.Signed.{signed}

-- the span that begins the body b of the record at p, and what follows the span
unfoldable pub spanned : Place → Place → Read (Span × Place)
spanned p b = cond (nat_lt (length b.bytes) 8) (fault p Body) (Ok (
  record { start = number (take 4 b.bytes); length = number (take 4 (drop 4 b.bytes)) },
  record { at = b.at + 8; bytes = drop 8 b.bytes },
))

-- a name or a type
unfoldable pub ident : ℕ → Place → Read (Ident × Place)
ident k p =
    and_then (part_of k p) (λ r.
    and_then (spanned p r.body) (λ s.
    Ok (record { bytes = s.1.bytes; span = s.0 }, r.after)))

abbrev pub some : {X : Type 0} → Read (X × Place) → Read (Option X × Place)
some r = and_then r (λ x. Ok (Some x.0, x.1))

-- one, where it is there
abbrev pub perhaps : Bool → ℕ → Place → Read (Option Ident × Place)
perhaps true k p = some (ident k p)
perhaps false k p = Ok (None, p)

-- no further part may stand at p
abbrev pub ended : Place → Read (Unit {0})
ended p = cond (none p.bytes) (Ok tt) (fault p After)

abbrev pub bool_in : List ℕ → Result Value Cause
bool_in [] = Err Body
bool_in (x ∷ []) = cond (x == 0) (Ok (bool false)) (cond (x == 1) (Ok (bool true)) (Err Body))
bool_in (x ∷ y ∷ ys) = Err Body

-- the value in a record of kind k with the body b
abbrev pub value_in : ℕ → List ℕ → Result Value Cause
value_in k b =
    cond (k == 7) (Ok (string b))
    (cond (k == 8) (cond (length b == 16) (Ok (integer (record { high = signed (number (drop 8 b)); low = number (take 8 b) }))) (Err Body))
    (cond (k == 9) (cond (length b == 8) (Ok (float (number b))) (Err Body))
    (cond (k == 10) (bool_in b)
    (cond (k == 11) (cond (none b) (Ok null) (Err Body))
    (Err Kind)))))

unfoldable pub value : Place → Read (Value × Place)
value p =
    and_then (part p) (λ r.
    and_then (located p (value_in r.kind r.body.bytes)) (λ v.
    Ok (v, r.after)))

-- an argument, or a property, which has a name
unfoldable pub entry : Place → Read (Entry × Place)
entry p =
    and_then (part p) (λ r.
    and_then (spanned p r.body) (λ s.
    and_then (perhaps (r.kind == 6) 3 s.1) (λ n.
    and_then (perhaps (next n.1 == 4) 4 n.1) (λ t.
    and_then (value t.1) (λ v.
    and_then (ended v.1) (λ _.
    Ok (record { handle = record { number = p.at }; name = n.0; type = t.0; value = v.0; span = s.0 }, r.after)))))))

abbrev pub is_entry : ℕ → Bool
is_entry k = k == 5 || k == 6

-- the entries at p; f bounds how many there are
unfoldable pub entries : ℕ → Place → Read (List Entry × Place)
entries zero p = Ok ([], p)
entries (suc f) p = cond (is_entry (next p))
    (and_then (entry p) (λ e. and_then (entries f e.1) (λ es. Ok (e.0 ∷ es.0, es.1))))
    (Ok ([], p))

-- a document that nothing follows, whose nodes are read by inner
unfoldable pub document : (Place → Read Nodes) → Place → Read Nodes
document inner p =
    and_then (part_of 1 p) (λ r.
    and_then (inner r.body) (λ ns.
    and_then (ended r.after) (λ _.
    Ok ns)))

-- the block that may stand at p, behind which nothing may stand
abbrev pub block_at : (Place → Read Nodes) → Place → Read Block
block_at inner p = cond (none p.bytes) (Ok no_block) (and_then (document inner p) (λ ns. Ok (block ns)))

-- a node up to its entries: span, name and type, where entries may stand, and what follows the node
pub record Fore : Type 0 where
  pub name : Ident
  pub type : Option Ident
  pub span : Span
  pub rest : Place
  pub after : Place

-- of a node of nesting d
unfoldable pub fore : ℕ → Place → Read Fore
fore d p =
    and_then (part_of 2 p) (λ r.
    and_then (cond (nat_le d 32) (spanned p r.body) (fault p Nesting)) (λ s.
    and_then (ident 3 s.1) (λ n.
    and_then (perhaps (next n.1 == 4) 4 n.1) (λ t.
    Ok (record { name = n.0; type = t.0; span = s.0; rest = t.1; after = r.after })))))

-- a node up to its block: what it says of itself, where a block may stand, and what follows the node
pub record Front : Type 0 where
  pub head : Head
  pub rest : Place
  pub after : Place

unfoldable pub front : ℕ → Place → Read Front
front d p =
    and_then (fore d p) (λ x.
    and_then (entries (length x.rest.bytes) x.rest) (λ es.
    Ok (record { head = record { name = x.name; type = x.type; span = x.span; entries = es.0 }; rest = es.1; after = x.after })))

unfoldable pub node_at : ℕ → (Place → Read Nodes) → Place → Read (Node × Place)
node_at d inner p =
    and_then (front d p) (λ f.
    and_then (block_at inner f.rest) (λ b.
    Ok (node (record { number = p.at }) f.head b, f.after)))

-- the nodes of nesting d that fill p; f bounds how many there are
unfoldable pub nodes : ℕ → ℕ → Place → Read Nodes
nodes zero d p = Ok nil
nodes (suc f) d p = cond (none p.bytes) (Ok nil)
    (and_then (node_at d (nodes f (suc d)) p) (λ n. and_then (nodes f d n.1) (λ ns. Ok (cons n.0 ns))))

-- the document that bs hold, with the offsets of the records as handles
abbrev pub image : List ℕ → Read Nodes
image bs = cond (nat_lt 1048576 (length bs)) (fault (start bs) Size) (document (nodes (length bs) 1) (start bs))

abbrev pub held : Read Nodes → Nodes
held (Ok doc) = doc
held (Err e) = nil

-- the document that is made of bytes: the empty one where they are unsound
abbrev pub document_in : List ℕ → Nodes
document_in bs = held (image bs)
