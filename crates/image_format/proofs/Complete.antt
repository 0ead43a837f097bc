-- Every writing within the limits is accepted. Assumes nothing.
use Rattle.std.proofs.Common.{◌≡◌, ℕ, zero, suc, ◌+◌, ◌^◌, ◌<◌, ◌≤◌, true, false, cond, eqb, List, [], ◌∷◌, ◌++◌, length, Some, None, Ok, Option, sym, refl, ap, ◌∙◌, subst, append_assoc, append-nil, add-zero, arith, length-append}
use Rattle.std.specs.List.{AllByRecursion}
use Rattle.std.proofs.lemmas.Bool.{le-ltb, le-leb, cond-true, cond-false}
use Rattle.tree.specs.declared.span.Span.{Span}
use Rattle.tree.specs.declared.handle.NodeHandle.{NodeHandle}
use Rattle.tree.specs.Document.{Ident, Value, null, string, integer, float, bool, Entry, Node, node, Block, block, no_block, Nodes, nil, cons, Head, depth, depth_block}
use Rattle.tree.specs.Numbers.{SpanFits}
use Rattle.records.specs.Numbers.{low}
use Rattle.records.specs.Records.{record_of, none, next_kind}
use Rattle.records.proofs.Numbers.{number_low}
use Rattle.records.proofs.Cutting.{record_long, next_record}
use Rattle.image_format.specs.Signed.{signed, unsigned}
use Rattle.image_format.specs.Reading.{Place, Read, located, spanned, ident, perhaps, value, value_in, entry, entries, is_entry, document, block_at, fore, front, node_at, nodes, image}
use Rattle.image_format.specs.Writing.{PerhapsFits, ValueFits, EntryFits, HeadFits, Fit, BlockFits, Stand, NodeStands, BlockStands, EntriesStand, span_of, ident_of, perhaps_of, value_of, entry_kind, entry_of, entries_of, front_of, node_of, nodes_of, block_of}
use Rattle.image_format.specs.Law.{Exact, Law}
use Rattle.image_format.proofs.Basics.{then_is}
use Rattle.image_format.proofs.Signs.{signed_unsigned, unsigned_lt}
use Rattle.image_format.proofs.Accepted.{accepted}
pub use Rattle.records.proofs.Parts.{place, part_reads, part_of_reads}

spanned_reads : (p : Place) (at : ℕ) (s : Span) (rest : List ℕ) → SpanFits s → spanned p (place at (span_of s ++ rest)) ≡ Ok (s, place (at + length (span_of s)) rest)
unfolding spanned span_of
spanned_reads p at s rest fits =
    let one = number_low 4 s.start fits.start in
    let two = number_low 4 s.length fits.length in
    let long = le-ltb (length (span_of s ++ rest)) 8 (omega arith) in
    rw long (λ i. Ok (record { start = one i; length = two i }, place (at + 8) rest))

pub ident_reads : (k at : ℕ) (i : Ident) (rest : List ℕ) → k < 65536 → SpanFits i.span → length (ident_of k i) < 2 ^ 32 → ident k (place at (ident_of k i ++ rest)) ≡ Ok (i, place (at + length (ident_of k i)) rest)
unfolding ident ident_of
ident_reads k at i rest small fits short =
    then_is _ _ _ _ (part_of_reads k at (span_of i.span ++ i.bytes) rest small short)
    (then_is _ _ _ _ (spanned_reads (place at (ident_of k i ++ rest)) (at + 6) i.span i.bytes fits) refl)

ident_next : (k : ℕ) (i : Ident) (rest : List ℕ) → k < 65536 → next_kind (ident_of k i ++ rest) ≡ k
unfolding ident_of
ident_next k i rest small = next_record k (span_of i.span ++ i.bytes) rest small

-- a type that is there, or not, where nothing of kind 4 follows
type_reads : (at : ℕ) (o : Option Ident) (rest : List ℕ) → PerhapsFits o → length (perhaps_of 4 o) < 2 ^ 32 → eqb (next_kind rest) 4 ≡ false
    → perhaps (eqb (next_kind (perhaps_of 4 o ++ rest)) 4) 4 (place at (perhaps_of 4 o ++ rest)) ≡ Ok (o, place (at + length (perhaps_of 4 o)) rest)
type_reads at None rest fits short other = rw other (ap (λ n. Ok (None, place n rest)) (sym (add-zero at)))
type_reads at (Some i) rest fits short other =
    rw (ident_next 4 i rest (omega arith)) (then_is _ _ _ _ (ident_reads 4 at i rest (omega arith) fits short) refl)

-- a property's name, or none
name_reads : (at : ℕ) (o : Option Ident) (rest : List ℕ) → PerhapsFits o → length (perhaps_of 3 o) < 2 ^ 32
    → perhaps (eqb (entry_kind o) 6) 3 (place at (perhaps_of 3 o ++ rest)) ≡ Ok (o, place (at + length (perhaps_of 3 o)) rest)
name_reads at None rest fits short = ap (λ n. Ok (None, place n rest)) (sym (add-zero at))
name_reads at (Some i) rest fits short = then_is _ _ _ _ (ident_reads 3 at i rest (omega arith) fits short) refl

by_value : (k at : ℕ) (b rest : List ℕ) (v : Value) → k < 65536 → length (record_of k b) < 2 ^ 32 → value_in k b ≡ Ok v → value (place at (record_of k b ++ rest)) ≡ Ok (v, place (at + length (record_of k b)) rest)
unfolding value
by_value k at b rest v small short e =
    then_is _ _ _ _ (part_reads k at b rest small short) (then_is _ _ _ _ (ap (located (place at (record_of k b ++ rest))) e) refl)

value_reads : (at : ℕ) (v : Value) (rest : List ℕ) → ValueFits v → length (value_of v) < 2 ^ 32 → value (place at (value_of v ++ rest)) ≡ Ok (v, place (at + length (value_of v)) rest)
unfolding value_of
value_reads at (string b) rest fits short = by_value 7 at b rest (string b) (omega arith) short refl
value_reads at (integer n) rest fits short =
    let one = number_low 8 n.low fits.low in
    let two = ap signed (number_low 8 (unsigned n.high) (unsigned_lt n.high fits.high)) ∙ signed_unsigned n.high fits.high in
    by_value 8 at (low 8 n.low ++ low 8 (unsigned n.high)) rest (integer n) (omega arith) short (λ i. Ok (integer (record { high = two i; low = one i })))
value_reads at (float x) rest fits short =
    let one = number_low 8 x fits in
    by_value 9 at (low 8 x) rest (float x) (omega arith) short (λ i. Ok (float (one i)))
value_reads at (bool true) rest fits short = by_value 10 at (1 ∷ []) rest (bool true) (omega arith) short refl
value_reads at (bool false) rest fits short = by_value 10 at (0 ∷ []) rest (bool false) (omega arith) short refl
value_reads at null rest fits short = by_value 11 at [] rest null (omega arith) short refl

pub value_next : (v : Value) (rest : List ℕ) → eqb (next_kind (value_of v ++ rest)) 4 ≡ false
unfolding value_of
value_next (string b) rest = rw (next_record 7 b rest (omega arith))
value_next (integer n) rest = rw (next_record 8 (low 8 n.low ++ low 8 (unsigned n.high)) rest (omega arith))
value_next (float x) rest = rw (next_record 9 (low 8 x) rest (omega arith))
value_next (bool b) rest = rw (next_record 10 (cond b 1 0 ∷ []) rest (omega arith))
value_next null rest = rw (next_record 11 [] rest (omega arith))

entry_body : Entry → List ℕ
entry_body e = span_of e.span ++ (perhaps_of 3 e.name ++ (perhaps_of 4 e.type ++ value_of e.value))

pub kind_small : (o : Option Ident) → entry_kind o < 65536
kind_small None = omega arith
kind_small (Some i) = omega arith

entry_reads : (at : ℕ) (e : Entry) (rest : List ℕ) → EntryFits e → e.handle ≡ record { number = at } → length (entry_of e) < 2 ^ 32 → entry (place at (entry_of e ++ rest)) ≡ Ok (e, place (at + length (entry_of e)) rest)
unfolding entry entry_of entry_body
entry_reads at e rest fits stands short =
    let long = record_long (entry_kind e.name) (entry_body e) in
    let one = length-append (span_of e.span) (perhaps_of 3 e.name ++ (perhaps_of 4 e.type ++ value_of e.value)) in
    let two = length-append (perhaps_of 3 e.name) (perhaps_of 4 e.type ++ value_of e.value) in
    let three = length-append (perhaps_of 4 e.type) (value_of e.value) in
    let a = at + 6 + length (span_of e.span) in
    let b = a + length (perhaps_of 3 e.name) in
    let c = b + length (perhaps_of 4 e.type) in
    let last = append-nil (value_of e.value) in
    let other : eqb (next_kind (value_of e.value)) 4 ≡ false = subst (λ w. eqb (next_kind w) 4 ≡ false) last (value_next e.value []) in
    let v : value (place c (value_of e.value)) ≡ Ok (e.value, place (c + length (value_of e.value)) []) = subst (λ w. value (place c w) ≡ Ok (e.value, place (c + length (value_of e.value)) [])) last (value_reads c e.value [] fits.value (omega arith)) in
    then_is _ _ _ _ (part_reads (entry_kind e.name) at (entry_body e) rest (kind_small e.name) short)
    (then_is _ _ _ _ (spanned_reads (place at (entry_of e ++ rest)) (at + 6) e.span _ fits.span)
    (then_is _ _ _ _ (name_reads a e.name _ fits.name (omega arith))
    (then_is _ _ _ _ (type_reads b e.type (value_of e.value) fits.type (omega arith) other)
    (then_is _ _ _ _ v
    (ap (λ h. Ok (record { handle = h; name = e.name; type = e.type; value = e.value; span = e.span }, place (at + length (entry_of e)) rest)) (sym stands))))))

entry_next : (e : Entry) (rest : List ℕ) → next_kind (entry_of e ++ rest) ≡ entry_kind e.name
unfolding entry_of entry_body
entry_next e rest = next_record (entry_kind e.name) (entry_body e) rest (kind_small e.name)

kind_entry : (o : Option Ident) → is_entry (entry_kind o) ≡ true
kind_entry None = refl
kind_entry (Some i) = refl

kind_other : (o : Option Ident) → eqb (entry_kind o) 4 ≡ false
kind_other None = refl
kind_other (Some i) = refl

entry_long : (e : Entry) → 6 ≤ length (entry_of e)
unfolding entry_of entry_body
entry_long e = let l = record_long (entry_kind e.name) (entry_body e) in omega arith

entries_read : (f at : ℕ) (es : List Entry) (rest : List ℕ) → AllByRecursion EntryFits es → EntriesStand at es → length (entries_of es) < 2 ^ 32 → length (entries_of es) ≤ f → is_entry (next_kind rest) ≡ false
    → entries f (place at (entries_of es ++ rest)) ≡ Ok (es, place (at + length (entries_of es)) rest)
unfolding entries
entries_read zero at [] rest fits stand short enough other = ap (λ n. Ok ([], place n rest)) (sym (add-zero at))
entries_read (suc f) at [] rest fits stand short enough other = rw other (ap (λ n. Ok ([], place n rest)) (sym (add-zero at)))
entries_read zero at (e ∷ es) rest fits stand short enough other =
    let l = entry_long e in
    let s = length-append (entry_of e) (entries_of es) in
    absurd (omega arith)
entries_read (suc f) at (e ∷ es) rest fits stand short enough other =
    let l = entry_long e in
    let s = length-append (entry_of e) (entries_of es) in
    let w : (entry_of e ++ entries_of es) ++ rest ≡ entry_of e ++ (entries_of es ++ rest) = append_assoc (entry_of e) (entries_of es) rest in
    let is : is_entry (next_kind (entry_of e ++ (entries_of es ++ rest))) ≡ true = ap is_entry (entry_next e (entries_of es ++ rest)) ∙ kind_entry e.name in
    let end : at + length (entry_of e) + length (entries_of es) ≡ at + length (entry_of e ++ entries_of es) = omega arith in
    ap (λ w. entries (suc f) (place at w)) w
    ∙ cond-true _ _ _ is
    ∙ then_is _ _ _ _ (entry_reads at e (entries_of es ++ rest) fits.0 stand.0 (omega arith))
    (then_is _ _ _ _ (entries_read f (at + length (entry_of e)) es rest fits.1 stand.1 (omega arith) (omega arith) other)
    (ap (λ n. Ok (e ∷ es, place n rest)) end))

document_reads : (inner : Place → Read Nodes) (at : ℕ) (ns : Nodes) → length (record_of 1 (nodes_of ns)) < 2 ^ 32 → inner (place (at + 6) (nodes_of ns)) ≡ Ok ns → document inner (place at (record_of 1 (nodes_of ns))) ≡ Ok ns
unfolding document
document_reads inner at ns short e =
    ap (λ w. document inner (place at w)) (sym (append-nil (record_of 1 (nodes_of ns))))
    ∙ then_is _ _ _ _ (part_of_reads 1 at (nodes_of ns) [] (omega arith) short) (then_is _ _ _ _ e refl)

-- what reads nodes does so with those of the block b
abbrev BlockReads : (Place → Read Nodes) → ℕ → Block → Type 0
BlockReads inner at no_block = Unit {0}
BlockReads inner at (block ns) = inner (place (at + 6) (nodes_of ns)) ≡ Ok ns

some_bytes : (k : ℕ) (b : List ℕ) → none (record_of k b) ≡ false
unfolding record_of
some_bytes k b = refl

block_reads : (inner : Place → Read Nodes) (at : ℕ) (b : Block) → length (block_of b) < 2 ^ 32 → BlockReads inner at b → block_at inner (place at (block_of b)) ≡ Ok b
block_reads inner at no_block short e = refl
block_reads inner at (block ns) short e = cond-false _ _ _ (some_bytes 1 (nodes_of ns)) ∙ then_is _ _ _ _ (document_reads inner at ns short e) refl

block_next : (b : Block) → (is_entry (next_kind (block_of b)) ≡ false) × (eqb (next_kind (block_of b)) 4 ≡ false)
unfolding record_of
block_next no_block = (refl, refl)
block_next (block ns) = (refl, refl)

pub entries_next : (es : List Entry) (b : Block) → eqb (next_kind (entries_of es ++ block_of b)) 4 ≡ false
entries_next [] b = (block_next b).1
entries_next (e ∷ es) b =
    ap (λ w. eqb (next_kind w) 4) (append_assoc (entry_of e) (entries_of es) (block_of b))
    ∙ ap (λ k. eqb k 4) (entry_next e (entries_of es ++ block_of b)) ∙ kind_other e.name

front_reads : (d at : ℕ) (h : NodeHandle) (head : Head) (b : Block) (rest : List ℕ) → d ≤ 32 → NodeStands at (node h head b) → HeadFits head → length (node_of (node h head b)) < 2 ^ 32
    → front d (place at (node_of (node h head b) ++ rest)) ≡ Ok (record { head = head; rest = place (at + 6 + length (front_of head) + length (entries_of head.entries)) (block_of b); after = place (at + length (node_of (node h head b))) rest })
unfolding front fore
front_reads d at h head b rest few stands fits short =
    let es = entries_of head.entries in
    let name = ident_of 3 head.name in
    let type = perhaps_of 4 head.type in
    let body = front_of head ++ (es ++ block_of b) in
    let long = record_long 2 body in
    let one = length-append (front_of head) (es ++ block_of b) in
    let two = length-append (span_of head.span) (name ++ type) in
    let three = length-append name type in
    let four = length-append es (block_of b) in
    let a = at + 6 + length (span_of head.span) in
    let c = a + length name in
    let from = c + length type in
    let same : from ≡ at + 6 + length (front_of head) = omega arith in
    let split : body ≡ span_of head.span ++ (name ++ (type ++ (es ++ block_of b))) =
    append_assoc (span_of head.span) (name ++ type) (es ++ block_of b) ∙ ap (λ w. span_of head.span ++ w) (append_assoc name type (es ++ block_of b)) in
    let p = place at (node_of (node h head b) ++ rest) in
    let sp : spanned p (place (at + 6) body) ≡ Ok (head.span, place a (name ++ (type ++ (es ++ block_of b)))) =
    ap (λ w. spanned p (place (at + 6) w)) split ∙ spanned_reads p (at + 6) head.span (name ++ (type ++ (es ++ block_of b))) fits.span in
    then_is _ _ _ _ (then_is _ _ _ _ (part_of_reads 2 at body rest (omega arith) short)
    (then_is _ _ _ _ (cond-true _ _ _ (le-leb d 32 few) ∙ sp)
    (then_is _ _ _ _ (ident_reads 3 a head.name (type ++ (es ++ block_of b)) (omega arith) fits.name (omega arith))
    (then_is _ _ _ _ (type_reads c head.type (es ++ block_of b) fits.type (omega arith) (entries_next head.entries b)) refl))))
    (then_is _ _ _ _ (entries_read (length (es ++ block_of b)) from head.entries (block_of b) fits.entries (subst (λ n. EntriesStand n head.entries) (sym same) stands.1) (omega arith) (omega arith) (block_next b).0)
    (ap (λ n. Ok (record { head = head; rest = place (n + length es) (block_of b); after = place (at + length (node_of (node h head b))) rest })) same))

node_reads : (d : ℕ) (inner : Place → Read Nodes) (at : ℕ) (h : NodeHandle) (head : Head) (b : Block) (rest : List ℕ) → d ≤ 32 → NodeStands at (node h head b) → HeadFits head → length (node_of (node h head b)) < 2 ^ 32
    → BlockReads inner (at + 6 + length (front_of head) + length (entries_of head.entries)) b
    → node_at d inner (place at (node_of (node h head b) ++ rest)) ≡ Ok (node h head b, place (at + length (node_of (node h head b))) rest)
unfolding node_at
node_reads d inner at h head b rest few stands fits short reads =
    let es = entries_of head.entries in
    let long = record_long 2 (front_of head ++ (es ++ block_of b)) in
    let one = length-append (front_of head) (es ++ block_of b) in
    let two = length-append es (block_of b) in
    then_is _ _ _ _ (front_reads d at h head b rest few stands fits short)
    (then_is _ _ _ _ (block_reads inner (at + 6 + length (front_of head) + length es) b (omega arith) reads)
    (ap (λ n. Ok (node n head b, place (at + length (node_of (node h head b))) rest)) (sym stands.0)))

node_long : (n : Node) → 6 ≤ length (node_of n)
node_long (node h head b) = let l = record_long 2 (front_of head ++ (entries_of head.entries ++ block_of b)) in omega arith

some_node : (n : Node) (w : List ℕ) → none (node_of n ++ w) ≡ false
unfolding record_of
some_node (node h head b) w = refl

abbrev NodesRead : ℕ → ℕ → Type 0
NodesRead f d = (at : ℕ) (ns : Nodes) → Stand at ns → Fit ns → d + depth ns ≤ 33 → length (nodes_of ns) < 2 ^ 32 → length (nodes_of ns) ≤ f → nodes f d (place at (nodes_of ns)) ≡ Ok ns

inner_reads : (f d : ℕ) (h : NodeHandle) (head : Head) (b : Block) (at : ℕ) → NodesRead f d → BlockStands at b → BlockFits b → d + depth_block b ≤ 33 → length (node_of (node h head b)) < 2 ^ 32 → length (node_of (node h head b)) ≤ suc f → BlockReads (nodes f d) at b
inner_reads f d h head no_block at read stand fit deep short enough = tt
inner_reads f d h head (block ns) at read stand fit deep short enough =
    let es = entries_of head.entries in
    let long = record_long 2 (front_of head ++ (es ++ record_of 1 (nodes_of ns))) in
    let one = length-append (front_of head) (es ++ record_of 1 (nodes_of ns)) in
    let two = length-append es (record_of 1 (nodes_of ns)) in
    let three = record_long 1 (nodes_of ns) in
    read (at + 6) ns stand fit deep (omega arith) (omega arith)

nodes_read : (f d : ℕ) → NodesRead f d
unfolding nodes
nodes_read zero d at nil stand fit deep short enough = refl
nodes_read (suc f) d at nil stand fit deep short enough = refl
nodes_read zero d at (cons n ns) stand fit deep short enough =
    let l = node_long n in
    let s = length-append (node_of n) (nodes_of ns) in
    absurd (omega arith)
nodes_read (suc f) d at (cons (node h head b) ns) stand fit deep short enough =
    let n = node h head b in
    let l = node_long n in
    let s = length-append (node_of n) (nodes_of ns) in
    cond-false _ _ _ (some_node n (nodes_of ns))
    ∙ then_is _ _ _ _ (node_reads d (nodes f (suc d)) at h head b (nodes_of ns) (omega arith) stand.0 fit.0.0 (omega arith) (inner_reads f (suc d) h head b _ (nodes_read f (suc d)) stand.0.2 fit.0.1 (omega arith) (omega arith) (omega arith)))
    (then_is _ _ _ _ (nodes_read f d (at + length (node_of n)) ns stand.1 fit.1 (omega arith) (omega arith) (omega arith)) refl)

pub complete : (bs : List ℕ) (ns : Nodes) → Exact bs ns → image bs ≡ Ok ns
complete bs ns x =
    let long = record_long 1 (nodes_of ns) in
    let few = x.short in
    let size = ap length x.written in
    let deep = x.shallow in
    cond-false _ _ _ (le-ltb 1048576 (length bs) few)
    ∙ ap (λ w. document (nodes (length bs) 1) (place 0 w)) x.written
    ∙ document_reads (nodes (length bs) 1) 0 ns (omega arith) (nodes_read (length bs) 1 6 ns x.stand x.fit (omega arith) (omega arith) (omega arith))

pub law : Law
law bs doc b = (accepted bs doc b, complete bs doc)
