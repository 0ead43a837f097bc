-- A laid out document is within the limits. Assumes nothing.
use Rattle.std.proofs.Common.{◌≡◌, ℕ, ◌+◌, ◌^◌, ◌<◌, ◌≤◌, Bool, true, ltb, List, [], ◌∷◌, ◌++◌, length, get_or, take, drop, ℤ, pos, negsuc, Some, None, Ok, Err, Option, Result, sym, refl, ap, ◌∙◌, subst, arith, length-drop}
use Rattle.std.specs.List.{AllByRecursion}
use Rattle.std.proofs.ByRecursion.{All-get_or, All-take, All-drop}
use Rattle.std.proofs.lemmas.Bool.{and_parts, and_from, ltb-true, leb-true, false≢true}
use Rattle.std.proofs.lemmas.List.{length-take-le, take_more, take_all}
use Rattle.tree.specs.declared.span.Span.{Span}
use Rattle.tree.specs.Document.{Nodes, nil, handle_in}
use Rattle.tree.specs.Going.{spots, all_spots, all_entries}
use Rattle.tree.specs.Numbers.{Signed, SpanFits, TextFits, Rising}
use Rattle.tree.specs.Limits.{IdentFits, PerhapsFits, ValueFits, EntryFits, NodeFits, Lawful}
use Rattle.layout.specs.Rows.{Tables, piece, in_text, ident, perhaps, perhaps_in_text, value, value_known, entry}
use Rattle.layout.specs.Tables.{blank, row, blank_entry, entry_row, read, held, document}
use Rattle.layout.specs.Layout.{NodeParts, EntryParts, Laid}
use Rattle.layout.specs.Typed.{span_typed, perhaps_typed, signed_typed, value_typed, node_typed, entry_typed, each, typed}
use Rattle.layout.specs.declared.rows.Part.{Part}
use Rattle.layout.specs.declared.rows.IdentRow.{IdentRow}
use Rattle.layout.specs.declared.rows.EntryRow.{EntryRow}
use Rattle.layout.specs.declared.rows.ValueRow.{ValueRow}
use Rattle.layout.specs.declared.rows.ValueRow.TheVariants.{Null, String, Integer, Float, Bool as Truth, Unknown}
use Rattle.layout.specs.declared.fault.TableFault.{TableFault}
use Rattle.layout.proofs.Reading.{laid}
use Rattle.layout.proofs.Placed.{upto_rising, NodeStands, node_stands, node_numbered, entry_stands}

pub each_all : {X : Type 0} (p : X → Bool) (xs : List X) → each p xs ≡ true → AllByRecursion (λ x. p x ≡ true) xs
each_all p [] e = tt
each_all p (x ∷ xs) e = let a = and_parts (p x) (each p xs) e in (a.0, each_all p xs a.1)

pub each_from : {X : Type 0} (p : X → Bool) (xs : List X) → AllByRecursion (λ x. p x ≡ true) xs → each p xs ≡ true
each_from p [] a = refl
each_from p (x ∷ xs) a = and_from (p x) (each p xs) a.0 (each_from p xs a.1)

each_append : {X : Type 0} (p : X → Bool) (xs ys : List X) → each p xs ≡ true → each p ys ≡ true → each p (xs ++ ys) ≡ true
each_append p [] ys a b = b
each_append p (x ∷ xs) ys a b = let q = and_parts (p x) (each p xs) a in and_from (p x) (each p (xs ++ ys)) q.0 (each_append p xs ys q.1 b)

-- one element more
pub each_more : {X : Type 0} (p : X → Bool) (xs : List X) (i : ℕ) (d : X) → i < length xs → each p (take i xs) ≡ true → p (get_or xs i d) ≡ true → each p (take (i + 1) xs) ≡ true
each_more p xs i d lt a b = ap (each p) (take_more xs i d lt) ∙ each_append p (take i xs) (get_or xs i d ∷ []) a (and_from _ true b refl)

pub each_whole : {X : Type 0} (p : X → Bool) (xs : List X) (i : ℕ) → length xs ≤ i → each p (take i xs) ≡ true → each p xs ≡ true
each_whole p xs i ge a = ap (each p) (sym (take_all i xs ge)) ∙ a

all_through : {X : Type 0} (P Q : X → Type 0) → ((x : X) → P x → Q x) → (xs : List X) → AllByRecursion P xs → AllByRecursion Q xs
all_through P Q f [] a = tt
all_through P Q f (x ∷ xs) a = (f x a.0, all_through P Q f xs a.1)

both : {X : Type 0} (P Q R : X → Type 0) → ((x : X) → P x → Q x → R x) → (xs : List X) → AllByRecursion P xs → AllByRecursion Q xs → AllByRecursion R xs
both P Q R f [] a b = tt
both P Q R f (x ∷ xs) a b = (f x a.0 b.0, both P Q R f xs a.1 b.1)

span_fits : (s : Span) → span_typed s ≡ true → SpanFits s
span_fits s e = let a = and_parts (ltb s.start (2 ^ 32)) (ltb s.length (2 ^ 32)) e in record { start = ltb-true _ _ a.0; length = ltb-true _ _ a.1 }

signed_fits : (z : ℤ) → signed_typed z ≡ true → Signed z
signed_fits (pos n) e = ltb-true n (2 ^ 63) e
signed_fits (negsuc n) e = ltb-true n (2 ^ 63) e

module _ (bs : List ℕ) (bytes : AllByRecursion (λ b. b < 256) bs) (short : length bs ≤ 1048576) where
  piece_fits : (p : Part) → in_text bs p ≡ true → TextFits (piece bs p)
  piece_fits p e =
      let l = leb-true (p.start + p.length) (length bs) e in
      let d = length-drop p.start bs in
      let m = length-take-le p.length (drop p.start bs) (omega arith) in
      record { allowed = All-take _ p.length (drop p.start bs) (All-drop _ p.start bs bytes); length = omega arith }

  ident_fits : (i : IdentRow) → in_text bs i.part ≡ true → span_typed i.span ≡ true → IdentFits (ident bs i)
  ident_fits i e f = record { bytes = piece_fits i.part e; span = span_fits i.span f }

  perhaps_fits : (o : Option IdentRow) → perhaps_in_text bs o ≡ true → perhaps_typed o ≡ true → PerhapsFits (perhaps bs o)
  perhaps_fits None e f = tt
  perhaps_fits (Some i) e f = ident_fits i e f

  value_fits : (v : ValueRow) → value_known bs v ≡ true → value_typed v ≡ true → ValueFits (value bs v)
  value_fits Null e f = tt
  value_fits (String p) e f = piece_fits p e
  value_fits (Integer n) e f = let a = and_parts (signed_typed n.high) (ltb n.low (2 ^ 64)) f in record { high = signed_fits n.high a.0; low = ltb-true _ _ a.1 }
  value_fits (Float x) e f = ltb-true x (2 ^ 64) f
  value_fits (Truth b) e f = tt
  value_fits (Unknown k) e f = absurd (false≢true e)

  entry_fits : (k : ℕ) (e : EntryRow) → k < 2 ^ 32 → EntryParts bs e → entry_typed e ≡ true → EntryFits (entry bs k e)
  entry_fits k e low q f =
      let a = and_parts (span_typed e.span) _ f in
      let b = and_parts (perhaps_typed e.name) _ a.1 in
      let c = and_parts (perhaps_typed e.ty) (value_typed e.value) b.1 in
      record {
        handle = low;
        name = perhaps_fits e.name q.name b.0;
        type = perhaps_fits e.ty q.type c.0;
        value = value_fits e.value q.value c.1;
        span = span_fits e.span a.0;
      }

lawful_laid : (t : Tables) (doc : Nodes) → typed t ≡ true → Laid t doc → Lawful doc
lawful_laid t doc e l =
    let a = and_parts (each (λ b. ltb b 256) t.text) _ e in
    let b = and_parts (each node_typed t.nodes) (each entry_typed t.entries) a.1 in
    let bytes = all_through _ (λ x. x < 256) (λ x. ltb-true x 256) t.text (each_all (λ x. ltb x 256) t.text a.0) in
    let nodes = each_all node_typed t.nodes b.0 in
    let entries = each_all entry_typed t.entries b.1 in
    let es = entry_stands t doc l in
    let few = l.few_nodes in
    let less = l.few_entries in
    record {
      nodes_rise = subst Rising (sym (node_numbered t doc l)) (upto_rising (length t.nodes));
      entries_rise = subst Rising (sym es.numbers) (upto_rising _);
      nodes_fit = both (NodeStands t) (λ s. s.nesting ≤ 32) NodeFits (λ s n deep.
          let i = (handle_in s.self).number in
          let inside = n.inside in
          let q = All-get_or (NodeParts t.text) t.nodes i blank inside l.node_parts in
          let f = All-get_or (λ r. node_typed r ≡ true) t.nodes i blank inside nodes in
          let g = and_parts (span_typed (row t i).span) _ f in
          let k = and_parts (span_typed (row t i).name.span) (perhaps_typed (row t i).ty) g.1 in
          record {
            handle = omega arith;
            nesting = deep;
            name = subst (λ h. IdentFits h.name) (sym n.head) (ident_fits t.text bytes l.short_text (row t i).name q.name k.0);
            type = subst (λ h. PerhapsFits h.type) (sym n.head) (perhaps_fits t.text bytes l.short_text (row t i).ty q.type k.1);
            span = subst (λ h. SpanFits h.span) (sym n.head) (span_fits (row t i).span g.0);
          }) (all_spots doc) (node_stands t doc l) l.nesting;
      entries_fit = all_through _ (λ s. EntryFits s.self) (λ s n.
          let k = s.self.handle.number in
          let inside = n.inside in
          subst EntryFits (sym n.is) (entry_fits t.text bytes l.short_text k (entry_row t k) (omega arith)
          (All-get_or (EntryParts t.text) t.entries k blank_entry inside l.entry_parts)
          (All-get_or (λ r. entry_typed r ≡ true) t.entries k blank_entry inside entries))) (all_entries doc) es.stand;
    }

lawful_empty : Lawful nil
unfolding spots
lawful_empty = record {
  nodes_rise = λ i j a b. absurd (omega arith);
  entries_rise = λ i j a b. absurd (omega arith);
  nodes_fit = tt;
  entries_fit = tt;
}

-- the document that is made of tables is within the limits
pub lawful : (t : Tables) → typed t ≡ true → Lawful (document t)
lawful t e = go (read t) refl
  where
    go : (r : Result Nodes TableFault) → read t ≡ r → Lawful (held r)
    go (Ok doc) is = lawful_laid t doc e (laid t doc is)
    go (Err x) is = lawful_empty
