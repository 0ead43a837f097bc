-- What is read at the handle of a node or an entry of a sound image. Assumes nothing.
use Rattle.std.proofs.Common.{◌≡◌, ℕ, ◌^◌, ◌<◌, Bool, true, false, cond, eqb, ltb, List, [], ◌∷◌, ◌++◌, length, take, drop, Some, None, Ok, Err, Option, Result, sym, refl, ap, ◌∙◌, subst, append_assoc, append-nil, arith, length-append}
use Rattle.std.proofs.lemmas.Bool.{le-ltb, eq-eqb, eqb-true, cond-true, cond-false}
use Rattle.std.proofs.lemmas.List.{take_all, length-drop}
use Rattle.index.proofs.Found.{none_some}
use Rattle.tree.specs.declared.span.Span.{Span}
use Rattle.tree.specs.declared.value.Integer.{Integer}
use Rattle.tree.specs.Document.{Ident, Value, null, string, integer, float, bool, Entry, Head, Node, node, head_in}
use Rattle.tree.specs.Numbers.{SpanFits}
use Rattle.records.specs.Numbers.{number, low}
use Rattle.records.specs.Records.{record_of, next_kind, Cut, cut}
use Rattle.records.specs.declared.fault.Cause.{Cause}
use Rattle.records.proofs.Numbers.{number_low}
use Rattle.records.proofs.Cutting.{record_long, cuts, next_record}
use Rattle.image_format.specs.Signed.{signed, unsigned}
use Rattle.image_format.specs.Reading.{value_in}
use Rattle.image_format.specs.Writing.{PerhapsFits, ValueFits, EntryFits, HeadFits, span_of, ident_of, perhaps_of, value_of, entry_kind, entry_of, entries_of, front_of, node_of, block_of}
use Rattle.image_format.proofs.Signs.{signed_unsigned, unsigned_lt}
use Rattle.image_format.proofs.Complete.{entries_next, value_next, kind_small}

-- the record that begins bytes, empty where there is none
abbrev held_cut : Result Cut Cause → Cut
held_cut (Ok c) = c
held_cut (Err e) = record { kind = 0; body = []; rest = [] }

abbrev pub body_in : List ℕ → List ℕ
body_in bs = (held_cut (cut bs)).body

abbrev pub rest_in : List ℕ → List ℕ
rest_in bs = (held_cut (cut bs)).rest

-- the span that begins a body
abbrev pub span_in : List ℕ → Span
span_in bs = cond (ltb (length bs) 8) (record { start = 0; length = 0 }) (record { start = number (take 4 bs); length = number (take 4 (drop 4 bs)) })

abbrev pub ident_in : List ℕ → Ident
ident_in bs = record { bytes = drop 8 (body_in bs); span = span_in (body_in bs) }

-- a name or a type of kind k that may begin bytes, and what stands behind it
abbrev pub perhaps_in : Bool → List ℕ → Option Ident
perhaps_in there bs = cond there (Some (ident_in bs)) None

abbrev pub behind : Bool → List ℕ → List ℕ
behind there bs = cond there (rest_in bs) bs

abbrev pub held_value : Result Value Cause → Value
held_value (Ok v) = v
held_value (Err e) = null

abbrev pub value_at : List ℕ → Value
value_at bs = held_value (value_in (next_kind bs) (body_in bs))

-- whether a type begins bytes
abbrev pub typed : List ℕ → Bool
typed bs = eqb (next_kind bs) 4

-- behind a node's name; behind an entry's name, if it has one
abbrev pub node_types : List ℕ → List ℕ
node_types bs = rest_in (drop 8 (body_in bs))

abbrev pub named : List ℕ → Bool
named bs = eqb (next_kind bs) 6

abbrev pub entry_types : List ℕ → List ℕ
entry_types bs = behind (named bs) (drop 8 (body_in bs))

-- what the bytes at a node's handle say of it
pub record NodeSays (bs : List ℕ) (head : Head) : Type 0 where
  pub name : ident_in (drop 8 (body_in bs)) ≡ head.name
  pub type : perhaps_in (typed (node_types bs)) (node_types bs) ≡ head.type
  pub span : span_in (body_in bs) ≡ head.span

-- and those at an entry's
pub record EntrySays (bs : List ℕ) (e : Entry) : Type 0 where
  pub name : perhaps_in (named bs) (drop 8 (body_in bs)) ≡ e.name
  pub type : perhaps_in (typed (entry_types bs)) (entry_types bs) ≡ e.type
  pub value : value_at (behind (typed (entry_types bs)) (entry_types bs)) ≡ e.value
  pub span : span_in (body_in bs) ≡ e.span

body_is : (k : ℕ) (b rest : List ℕ) → k < 65536 → length (record_of k b) < 2 ^ 32 → body_in (record_of k b ++ rest) ≡ b
body_is k b rest small short = ap (λ c. (held_cut c).body) (cuts k b rest small short)

rest_is : (k : ℕ) (b rest : List ℕ) → k < 65536 → length (record_of k b) < 2 ^ 32 → rest_in (record_of k b ++ rest) ≡ rest
rest_is k b rest small short = ap (λ c. (held_cut c).rest) (cuts k b rest small short)

span_is : (s : Span) (rest : List ℕ) → SpanFits s → span_in (span_of s ++ rest) ≡ s
unfolding span_of
span_is s rest fits =
    let one = number_low 4 s.start fits.start in
    let two = number_low 4 s.length fits.length in
    let long = le-ltb (length (span_of s ++ rest)) 8 (omega arith) in
    rw long (λ i. record { start = one i; length = two i })

behind_span : (s : Span) (rest : List ℕ) → drop 8 (span_of s ++ rest) ≡ rest
unfolding span_of
behind_span s rest = refl

ident_is : (k : ℕ) (i : Ident) (rest : List ℕ) → k < 65536 → SpanFits i.span → length (ident_of k i) < 2 ^ 32 → ident_in (ident_of k i ++ rest) ≡ i
unfolding ident_of
ident_is k i rest small fits short =
    let b = body_is k (span_of i.span ++ i.bytes) rest small short in
    let one : drop 8 (body_in (ident_of k i ++ rest)) ≡ i.bytes = ap (drop 8) b ∙ behind_span i.span i.bytes in
    let two : span_in (body_in (ident_of k i ++ rest)) ≡ i.span = ap span_in b ∙ span_is i.span i.bytes fits in
    λ j. record { bytes = one j; span = two j }

behind_ident : (k : ℕ) (i : Ident) (rest : List ℕ) → k < 65536 → length (ident_of k i) < 2 ^ 32 → rest_in (ident_of k i ++ rest) ≡ rest
unfolding ident_of
behind_ident k i rest small short = rest_is k (span_of i.span ++ i.bytes) rest small short

ident_next : (k : ℕ) (i : Ident) (rest : List ℕ) → k < 65536 → next_kind (ident_of k i ++ rest) ≡ k
unfolding ident_of
ident_next k i rest small = next_record k (span_of i.span ++ i.bytes) rest small

type_is : (o : Option Ident) (rest : List ℕ) → PerhapsFits o → length (perhaps_of 4 o) < 2 ^ 32 → eqb (next_kind rest) 4 ≡ false
    → (perhaps_in (typed (perhaps_of 4 o ++ rest)) (perhaps_of 4 o ++ rest) ≡ o) × (behind (typed (perhaps_of 4 o ++ rest)) (perhaps_of 4 o ++ rest) ≡ rest)
type_is None rest fits short other = (ap (λ b. perhaps_in b rest) other, ap (λ b. behind b rest) other)
type_is (Some i) rest fits short other =
    let xs = ident_of 4 i ++ rest in
    let is : typed xs ≡ true = ap (λ k. eqb k 4) (ident_next 4 i rest (omega arith)) in
    (ap (λ b. perhaps_in b xs) is ∙ ap Some (ident_is 4 i rest (omega arith) fits short), ap (λ b. behind b xs) is ∙ behind_ident 4 i rest (omega arith) short)

name_is : (o : Option Ident) (rest : List ℕ) → PerhapsFits o → length (perhaps_of 3 o) < 2 ^ 32
    → (perhaps_in (eqb (entry_kind o) 6) (perhaps_of 3 o ++ rest) ≡ o) × (behind (eqb (entry_kind o) 6) (perhaps_of 3 o ++ rest) ≡ rest)
name_is None rest fits short = (refl, refl)
name_is (Some i) rest fits short = (ap Some (ident_is 3 i rest (omega arith) fits short), behind_ident 3 i rest (omega arith) short)

by_value : (k : ℕ) (b : List ℕ) (v : Value) → k < 65536 → length (record_of k b) < 2 ^ 32 → value_in k b ≡ Ok v → value_at (record_of k b) ≡ v
by_value k b v small short e =
    let w = sym (append-nil (record_of k b)) in
    let kind = ap next_kind w ∙ next_record k b [] small in
    let body = ap body_in w ∙ body_is k b [] small short in
    ap (λ n. held_value (value_in n (body_in (record_of k b)))) kind ∙ ap (λ x. held_value (value_in k x)) body ∙ ap held_value e

value_is : (v : Value) → ValueFits v → length (value_of v) < 2 ^ 32 → value_at (value_of v) ≡ v
unfolding value_of
value_is (string b) fits short = by_value 7 b (string b) (omega arith) short refl
value_is (integer n) fits short =
    let one = number_low 8 n.low fits.low in
    let two = ap signed (number_low 8 (unsigned n.high) (unsigned_lt n.high fits.high)) ∙ signed_unsigned n.high fits.high in
    by_value 8 (low 8 n.low ++ low 8 (unsigned n.high)) (integer n) (omega arith) short (λ i. Ok (integer (record { high = two i; low = one i })))
value_is (float x) fits short =
    let one = number_low 8 x fits in
    by_value 9 (low 8 x) (float x) (omega arith) short (λ i. Ok (float (one i)))
value_is (bool true) fits short = by_value 10 (1 ∷ []) (bool true) (omega arith) short refl
value_is (bool false) fits short = by_value 10 (0 ∷ []) (bool false) (omega arith) short refl
value_is null fits short = by_value 11 [] null (omega arith) short refl

pub entry_says : (e : Entry) (rest : List ℕ) → EntryFits e → length (entry_of e) < 2 ^ 32 → EntrySays (entry_of e ++ rest) e
unfolding entry_of
entry_says e rest fits short =
    let xs = entry_of e ++ rest in
    let spans = span_of e.span in
    let names = perhaps_of 3 e.name in
    let types = perhaps_of 4 e.type in
    let values = value_of e.value in
    let long = record_long (entry_kind e.name) (spans ++ (names ++ (types ++ values))) in
    let one = length-append spans (names ++ (types ++ values)) in
    let two = length-append names (types ++ values) in
    let three = length-append types values in
    let b : body_in xs ≡ spans ++ (names ++ (types ++ values)) = body_is (entry_kind e.name) (spans ++ (names ++ (types ++ values))) rest (kind_small e.name) short in
    let past : drop 8 (body_in xs) ≡ names ++ (types ++ values) = ap (drop 8) b ∙ behind_span e.span (names ++ (types ++ values)) in
    let kind : named xs ≡ eqb (entry_kind e.name) 6 = ap (λ k. eqb k 6) (next_record (entry_kind e.name) (spans ++ (names ++ (types ++ values))) rest (kind_small e.name)) in
    let n = name_is e.name (types ++ values) fits.name (omega arith) in
    let at_types : entry_types xs ≡ types ++ values = (λ i. behind (kind i) (past i)) ∙ n.1 in
    let other : eqb (next_kind values) 4 ≡ false = subst (λ w. eqb (next_kind w) 4 ≡ false) (append-nil values) (value_next e.value []) in
    let t = type_is e.type values fits.type (omega arith) other in
    record {
      name = (λ i. perhaps_in (kind i) (past i)) ∙ n.0;
      type = ap (λ w. perhaps_in (typed w) w) at_types ∙ t.0;
      value = ap value_at (ap (λ w. behind (typed w) w) at_types ∙ t.1) ∙ value_is e.value fits.value (omega arith);
      span = ap span_in b ∙ span_is e.span (names ++ (types ++ values)) fits.span;
    }

pub node_says : (n : Node) (rest : List ℕ) → HeadFits (head_in n) → length (node_of n) < 2 ^ 32 → NodeSays (node_of n ++ rest) (head_in n)
node_says (node h head bl) rest fits short =
    let xs = node_of (node h head bl) ++ rest in
    let spans = span_of head.span in
    let names = ident_of 3 head.name in
    let types = perhaps_of 4 head.type in
    let others = entries_of head.entries ++ block_of bl in
    let body = front_of head ++ others in
    let long = record_long 2 body in
    let one = length-append (front_of head) others in
    let two = length-append spans (names ++ types) in
    let three = length-append names types in
    let split : body ≡ spans ++ (names ++ (types ++ others)) = append_assoc spans (names ++ types) others ∙ ap (λ w. spans ++ w) (append_assoc names types others) in
    let b : body_in xs ≡ spans ++ (names ++ (types ++ others)) = body_is 2 body rest (omega arith) short ∙ split in
    let past : drop 8 (body_in xs) ≡ names ++ (types ++ others) = ap (drop 8) b ∙ behind_span head.span (names ++ (types ++ others)) in
    let at_types : node_types xs ≡ types ++ others = ap rest_in past ∙ behind_ident 3 head.name (types ++ others) (omega arith) (omega arith) in
    let t = type_is head.type others fits.type (omega arith) (entries_next head.entries bl) in
    record {
      name = ap ident_in past ∙ ident_is 3 head.name (types ++ others) (omega arith) fits.name (omega arith);
      type = ap (λ w. perhaps_in (typed w) w) at_types ∙ t.0;
      span = ap span_in b ∙ span_is head.span (names ++ (types ++ others)) fits.span;
    }

-- the integer and the bool in a body
abbrev pub integer_in : List ℕ → Option Integer
integer_in b = cond (eqb (length b) 16) (Some (record { high = signed (number (take 8 (drop 8 b))); low = number (take 8 b) })) None

abbrev pub flag_in : List ℕ → Option Bool
flag_in [] = None
flag_in (x ∷ []) = cond (eqb x 0) (Some false) (cond (eqb x 1) (Some true) None)
flag_in (x ∷ y ∷ ys) = None

some_some : {X : Type 0} {x y : X} → ◌≡◌ {A = Option X} (Some x) (Some y) → x ≡ y
some_some e = cc

module _ (bs b : List ℕ) (k : ℕ) (kind : k ≡ next_kind bs) (body : b ≡ body_in bs) where
  pub at_integer : (n : Integer) → k ≡ 8 → Some n ≡ integer_in b → integer n ≡ value_at bs
  at_integer n is h = go (eqb (length b) 16) refl ∙ (λ i. held_value (value_in ((sym is ∙ kind) i) (body i)))
    where
      go : (x : Bool) → eqb (length b) 16 ≡ x → integer n ≡ held_value (value_in 8 b)
      go true e =
          let l = eqb-true (length b) 16 e in
          let m = length-drop 8 b in
          let same : n ≡ record { high = signed (number (take 8 (drop 8 b))); low = number (take 8 b) } = some_some (h ∙ cond-true _ _ _ e) in
          let whole : take 8 (drop 8 b) ≡ drop 8 b = take_all 8 (drop 8 b) (omega arith) in
          ap integer same ∙ ap (λ w. integer (record { high = signed (number w); low = number (take 8 b) })) whole ∙ sym (ap held_value (cond-true _ _ _ e))
      go false e = none_some n (sym (h ∙ cond-false _ _ _ e))

  pub at_float : (x : ℕ) → k ≡ 9 → length b ≡ 8 → x ≡ number (take 8 b) → float x ≡ value_at bs
  at_float x is l h =
      let whole : take 8 b ≡ b = take_all 8 b (omega arith) in
      ap float (h ∙ ap number whole) ∙ sym (ap held_value (cond-true _ _ _ (eq-eqb (length b) 8 l))) ∙ (λ i. held_value (value_in ((sym is ∙ kind) i) (body i)))
