-- Where each node and entry of a document stands in its image, and that the document keeps the limits. Assumes nothing.
use Rattle.std.proofs.Common.{ℕ, suc, ◌+◌, ◌<◌, ◌≤◌, List, [], ◌∷◌, ◌++◌, length, Some, None, Option, sym, refl, ◌∙◌, subst, append-nil, arith}
use Rattle.std.specs.List.{AllByRecursion}
use Rattle.std.proofs.ByRecursion.{All-append, All-weaker}
use Rattle.tree.specs.declared.handle.NodeHandle.{NodeHandle}
use Rattle.tree.specs.declared.handle.EntryHandle.{EntryHandle}
use Rattle.tree.specs.Document.{Ident, Value, null, string, integer, float, bool, Entry, Node, node, Block, block, no_block, Nodes, nil, cons, handle_in, head_in, listed, depth, depth_node, depth_block}
use Rattle.tree.specs.Going.{Spot, EntrySpot, spots, spots_in, spots_of, all_spots, all_entries, entries_from, entries_of as all_entries_of}
use Rattle.tree.specs.Limits as limits
use Rattle.tree.specs.Limits.{Lawful, node_numbers, entry_numbers}
use Rattle.tree.specs.Numbers.{TextFits, SpanFits}
use Rattle.tree.proofs.Standing.{At, left, right, all_at, ends}
use Rattle.records.specs.Numbers.{Bytes, low}
use Rattle.records.specs.Records.{record_of}
use Rattle.records.proofs.Numbers.{low_length}
use Rattle.image_format.specs.Writing.{span_of, ident_of, perhaps_of, value_of, entry_kind, entry_of, entries_of, front_of, nodes_of, node_of, block_of, Stand, NodeStands, BlockStands, EntriesStand, PerhapsFits, ValueFits, EntryFits, HeadFits, Fit, NodeFits, BlockFits}
use Rattle.image_format.specs.Law.{Exact}
use Rattle.image_format.proofs.Standing.{climbs_rising, nodes_climb, entries_climb}

-- the body of a record stands behind its head
pub body_at : (bs : List ℕ) (at kind : ℕ) (body : List ℕ) → At bs at (record_of kind body) → At bs (at + 6) body
unfolding record_of
body_at bs at kind body a =
    let l = low_length 4 (6 + length body) in
    let m = low_length 2 kind in
    let one = right bs at (low 4 (6 + length body)) (low 2 kind ++ body) a in
    let two = right bs (at + length (low 4 (6 + length body))) (low 2 kind) body one in
    subst (λ n. At bs n body) (omega arith) two

module _ (bs : List ℕ) where
  -- an entry stands at its handle
  pub record EntryStands (e : Entry) : Type 0 where
    pub place : At bs e.handle.number (entry_of e)
    pub fits : EntryFits e

  -- so does a node, and so do its entries
  pub record Stands (s : Spot) : Type 0 where
    pub place : At bs (handle_in s.self).number (node_of s.self)
    pub fits : HeadFits (head_in s.self)
    pub nesting : s.nesting ≤ 32
    pub entries : AllByRecursion EntryStands (head_in s.self).entries

  entries_stand : (at : ℕ) (es : List Entry) → At bs at (entries_of es) → EntriesStand at es → AllByRecursion EntryFits es → AllByRecursion EntryStands es
  entries_stand at [] a s f = tt
  entries_stand at (e ∷ es) a s f = (
    record { place = subst (λ (h : EntryHandle). At bs h.number (entry_of e)) (sym s.0) (left bs at (entry_of e) (entries_of es) a); fits = f.0 },
    entries_stand (at + length (entry_of e)) es (right bs at (entry_of e) (entries_of es) a) s.1 f.1,
  )

  mutual
    unfolding spots

    stand : (d : ℕ) (p : Option NodeHandle) (before : List Node) (ns : Nodes) (at : ℕ) → At bs at (nodes_of ns) → Stand at ns → Fit ns → d + depth ns ≤ 33 → AllByRecursion Stands (spots d p before ns)
    stand d p before nil at a s f l = tt
    stand d p before (cons n ns) at a s f l =
        let this = stand_node d p before n (listed ns) at (left bs at (node_of n) (nodes_of ns) a) s.0 f.0 (omega arith) in (
          this.0,
          All-append Stands (spots_in d n) (spots d p (before ++ n ∷ []) ns) this.1
              (stand d p (before ++ n ∷ []) ns (at + length (node_of n)) (right bs at (node_of n) (nodes_of ns) a) s.1 f.1 (omega arith)),
        )

    stand_node : (d : ℕ) (p : Option NodeHandle) (before : List Node) (n : Node) (after : List Node) (at : ℕ) → At bs at (node_of n) → NodeStands at n → NodeFits n → d + depth_node n ≤ 33
        → Stands (record { before = before; self = n; after = after; parent = p; nesting = d }) × AllByRecursion Stands (spots_in d n)
    stand_node d p before (node h head b) after at a s f l =
        let inner = body_at bs at 2 (front_of head ++ (entries_of head.entries ++ block_of b)) a in
        let rest = right bs (at + 6) (front_of head) (entries_of head.entries ++ block_of b) inner in
        let from = at + 6 + length (front_of head) in
        let es = left bs from (entries_of head.entries) (block_of b) rest in
        let bl = right bs from (entries_of head.entries) (block_of b) rest in (
          record {
            place = subst (λ (x : NodeHandle). At bs x.number (node_of (node h head b))) (sym s.0) a;
            fits = f.0;
            nesting = omega arith;
            entries = entries_stand from head.entries es s.1 f.0.entries;
          },
          stand_block (suc d) (Some h) b (from + length (entries_of head.entries)) bl s.2 f.1 (omega arith),
        )

    stand_block : (d : ℕ) (p : Option NodeHandle) (b : Block) (at : ℕ) → At bs at (block_of b) → BlockStands at b → BlockFits b → d + depth_block b ≤ 33 → AllByRecursion Stands (spots_of d p b)
    stand_block d p no_block at a s f l = tt
    stand_block d p (block ns) at a s f l = stand d p [] ns (at + 6) (body_at bs at 1 (nodes_of ns) a) s f l

pub all_stand : (bs : List ℕ) (doc : Nodes) → Exact bs doc → AllByRecursion (Stands bs) (all_spots doc)
all_stand bs doc x =
    let whole : At bs 0 (record_of 1 (nodes_of doc)) = record { before = []; behind = []; whole = x.written ∙ sym (append-nil (record_of 1 (nodes_of doc))); long = refl } in
    let s = x.shallow in
    stand bs 1 None [] doc 6 (body_at bs 0 1 (nodes_of doc) whole) x.stand x.fit (omega arith)

-- what is written among bytes is short, and made of bytes
module _ (bs : List ℕ) (b : Bytes bs) (short : length bs ≤ 1048576) where
  text_fits : (at : ℕ) (xs : List ℕ) → At bs at xs → TextFits xs
  text_fits at xs a = let l = ends bs at xs a in record { allowed = all_at (λ x. x < 256) bs at xs a b; length = omega arith }

  ident_fits : (at kind : ℕ) (i : Ident) → At bs at (ident_of kind i) → SpanFits i.span → limits.IdentFits i
  unfolding ident_of
  ident_fits at kind i a f = record { bytes = text_fits _ i.bytes (right bs (at + 6) (span_of i.span) i.bytes (body_at bs at kind (span_of i.span ++ i.bytes) a)); span = f }

  perhaps_fits : (at kind : ℕ) (o : Option Ident) → At bs at (perhaps_of kind o) → PerhapsFits o → limits.PerhapsFits o
  perhaps_fits at kind None a f = tt
  perhaps_fits at kind (Some i) a f = ident_fits at kind i a f

  value_fits : (at : ℕ) (v : Value) → At bs at (value_of v) → ValueFits v → limits.ValueFits v
  unfolding value_of
  value_fits at null a f = tt
  value_fits at (string xs) a f = text_fits (at + 6) xs (body_at bs at 7 xs a)
  value_fits at (integer n) a f = f
  value_fits at (float x) a f = f
  value_fits at (bool x) a f = f

  entry_fits : (e : Entry) → EntryStands bs e → limits.EntryFits e
  unfolding entry_of
  entry_fits e s =
      let at = e.handle.number in
      let named = perhaps_of 3 e.name in
      let typed = perhaps_of 4 e.type in
      let body = body_at bs at (entry_kind e.name) (span_of e.span ++ (named ++ (typed ++ value_of e.value))) s.place in
      let one = right bs (at + 6) (span_of e.span) (named ++ (typed ++ value_of e.value)) body in
      let two = right bs (at + 6 + length (span_of e.span)) named (typed ++ value_of e.value) one in
      let l = ends bs at (entry_of e) s.place in
      record {
        handle = omega arith;
        name = perhaps_fits _ 3 e.name (left bs (at + 6 + length (span_of e.span)) named (typed ++ value_of e.value) one) s.fits.name;
        type = perhaps_fits _ 4 e.type (left bs _ typed (value_of e.value) two) s.fits.type;
        value = value_fits _ e.value (right bs _ typed (value_of e.value) two) s.fits.value;
        span = s.fits.span;
      }

  node_fits : (s : Spot) → Stands bs s → limits.NodeFits s
  node_fits s x = go s.self x.place x.fits
    where
      go : (n : Node) → At bs (handle_in n).number (node_of n) → HeadFits (head_in n) → limits.NodeFits (record { before = s.before; self = n; after = s.after; parent = s.parent; nesting = s.nesting })
      go (node h head bl) a f =
          let at = h.number in
          let rest = entries_of head.entries ++ block_of bl in
          let named = ident_of 3 head.name in
          let typed = perhaps_of 4 head.type in
          let body = body_at bs at 2 (front_of head ++ rest) a in
          let fronts = left bs (at + 6) (front_of head) rest body in
          let one = right bs (at + 6) (span_of head.span) (named ++ typed) fronts in
          let l = ends bs at (node_of (node h head bl)) a in
          record {
            handle = omega arith;
            nesting = x.nesting;
            name = ident_fits _ 3 head.name (left bs _ named typed one) f.name;
            type = perhaps_fits _ 4 head.type (right bs _ named typed one) f.type;
            span = f.span;
          }

  entries_fit : (ss : List Spot) → AllByRecursion (Stands bs) ss → AllByRecursion (λ (s : EntrySpot). limits.EntryFits s.self) (all_entries_of ss)
  entries_fit [] h = tt
  entries_fit (s ∷ ss) h = All-append (λ (s : EntrySpot). limits.EntryFits s.self) (entries_from (handle_in s.self) (head_in s.self).entries) (all_entries_of ss) (from (handle_in s.self) (head_in s.self).entries h.0.entries) (entries_fit ss h.1)
    where
      from : (n : NodeHandle) (es : List Entry) → AllByRecursion (EntryStands bs) es → AllByRecursion (λ (s : EntrySpot). limits.EntryFits s.self) (entries_from n es)
      from n [] k = tt
      from n (e ∷ es) k = (entry_fits e k.0, from n es k.1)

pub lawful : (bs : List ℕ) (doc : Nodes) → Bytes bs → Exact bs doc → Lawful doc
lawful bs doc b x =
    let all = all_stand bs doc x in
    record {
      nodes_rise = climbs_rising 6 (6 + length (nodes_of doc)) (node_numbers (all_spots doc)) (nodes_climb doc x.stand);
      entries_rise = climbs_rising 6 (6 + length (nodes_of doc)) (entry_numbers (all_entries doc)) (entries_climb doc x.stand);
      nodes_fit = All-weaker (Stands bs) limits.NodeFits (node_fits bs b x.short) (all_spots doc) all;
      entries_fit = entries_fit bs b x.short (all_spots doc) all;
    }
