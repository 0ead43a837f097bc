-- The record that is found at a place is what was written there, and what was written is found. Assumes nothing.
use Rattle.std.proofs.Common.{◌≡◌, ℕ, ◌+◌, ◌^◌, ◌<◌, eqb, List, [], ◌++◌, length, Ok, Err, Result, sym, refl, ap, ◌∙◌, subst, append_assoc, append-nil, arith, length-append}
use Rattle.std.proofs.lemmas.Bool.{eq-eqb, ne_eqb, eqb-true}
use Rattle.tree.specs.Outcome.{over}
use Rattle.records.specs.declared.fault.Cause.{Cause}
use Rattle.records.specs.declared.fault.Cause.TheVariants.{Kind}
use Rattle.records.specs.Numbers.{Bytes}
use Rattle.records.specs.Records.{record_of, Cut, cut}
use Rattle.records.specs.Places.{Place, Part, fault, located, next, placed, part, part_of}
use Rattle.records.proofs.Numbers.{bytes_right}
use Rattle.records.proofs.Cutting.{record_long, begins, cuts, cut_size}
use Rattle.records.proofs.Results.{err_ok, ok_ok, then_ok, then_is, holds, over_is}

-- w stands at p, and q is behind it
pub record Goes (p : Place) (w : List ℕ) (q : Place) : Type 0 where
  pub bytes : p.bytes ≡ w ++ q.bytes
  pub at : q.at ≡ p.at + length w

pub record PartIs (p : Place) (r : Part) : Type 0 where
  pub goes : Goes p (record_of r.kind r.body.bytes) r.after
  pub starts : r.body.at ≡ p.at + 6
  pub inner : Bytes r.body.bytes
  pub rest : Bytes r.after.bytes
  pub kind : next p ≡ r.kind

abbrev pub place : ℕ → List ℕ → Place
place at xs = record { at = at; bytes = xs }

pub located_ok : {X : Type 0} (p : Place) (m : Result X Cause) (x : X) → located p m ≡ Ok x → m ≡ Ok x
located_ok p (Ok y) x e = ap Ok (ok_ok e)
located_ok p (Err c) x e = err_ok _ x e

pub part_is : (p : Place) (r : Part) → Bytes p.bytes → part p ≡ Ok r → PartIs p r
unfolding part
part_is p r b e =
    let o = over_is (placed p) (located p (cut p.bytes)) r e in
    let c = o.0 in
    let g = begins p.bytes c b (located_ok p (cut p.bytes) c o.1) in
    let long = record_long c.kind c.body in
    subst (PartIs p) o.2 (record {
      goes = record { bytes = g.written; at = omega arith };
      starts = refl;
      inner = g.body;
      rest = g.rest;
      kind = g.kind;
    })

pub goes_bytes : (p q : Place) (w : List ℕ) → Goes p w q → Bytes p.bytes → Bytes q.bytes
goes_bytes p q w g b = bytes_right w q.bytes (subst Bytes g.bytes b)

pub goes_then : (p q r : Place) (v w : List ℕ) → Goes p v q → Goes q w r → Goes p (v ++ w) r
goes_then p q r v w g h =
    let l = length-append v w in
    let s = g.at in
    let t = h.at in
    record { bytes = g.bytes ∙ ap (λ ys. v ++ ys) h.bytes ∙ sym (append_assoc v w r.bytes); at = omega arith }

pub goes_long : (p q : Place) (w : List ℕ) → Goes p w q → length p.bytes ≡ length w + length q.bytes
goes_long p q w g = ap length g.bytes ∙ length-append w q.bytes

pub goes_all : (p q : Place) (w : List ℕ) → Goes p w q → q.bytes ≡ [] → p.bytes ≡ w
goes_all p q w g e = g.bytes ∙ ap (λ ys. w ++ ys) e ∙ simp append-nil

pub part_of_is : (k : ℕ) (p : Place) (r : Part) → Bytes p.bytes → part_of k p ≡ Ok r → PartIs p r × (r.kind ≡ k)
unfolding part_of
part_of_is k p r b e =
    let h = then_ok (part p) _ r e in
    let g = holds (eqb h.0.kind k) _ _ r h.2 in
    subst (λ x. PartIs p x × (x.kind ≡ k)) (ok_ok g.1) (part_is p h.0 b h.1, eqb-true _ _ g.0)

pub part_reads : (k at : ℕ) (b rest : List ℕ) → k < 65536 → length (record_of k b) < 2 ^ 32 → part (place at (record_of k b ++ rest)) ≡ Ok (record { kind = k; body = place (at + 6) b; after = place (at + length (record_of k b)) rest })
unfolding part
part_reads k at b rest small short =
    let l = record_long k b in
    let e : at + 6 + length b ≡ at + length (record_of k b) = omega arith in
    ap (λ c. over (placed (place at (record_of k b ++ rest))) (located (place at (record_of k b ++ rest)) c)) (cuts k b rest small short)
    ∙ ap (λ n. Ok (record { kind = k; body = place (at + 6) b; after = place n rest })) e

pub part_of_reads : (k at : ℕ) (b rest : List ℕ) → k < 65536 → length (record_of k b) < 2 ^ 32 → part_of k (place at (record_of k b ++ rest)) ≡ Ok (record { kind = k; body = place (at + 6) b; after = place (at + length (record_of k b)) rest })
unfolding part_of
part_of_reads k at b rest small short = then_is _ _ _ _ (part_reads k at b rest small short) (rw (eq-eqb k k refl))

-- what cutting a record off says of the record of a kind at a place
module _ (k : ℕ) (p : Place) where
  pub part_of_refused : (c : Cause) → Err c ≡ cut p.bytes → fault p c ≡ part_of k p
  unfolding part part_of
  part_of_refused c e = rw (← e)

  pub part_of_found : (c : Cut) → Ok c ≡ cut p.bytes → c.kind ≡ k → Ok (placed p c) ≡ part_of k p
  unfolding part part_of
  part_of_found c e is = rw (← e, eq-eqb c.kind k is)

  pub part_of_other : (c : Cut) → Ok c ≡ cut p.bytes → (c.kind ≡ k → ⊥) → fault p Kind ≡ part_of k p
  unfolding part part_of
  part_of_other c e other = rw (← e, ne_eqb c.kind k other)

  -- a record is as long as its head, its body and what follows it
  pub part_of_size : (r : Part) → part_of k p ≡ Ok r → length r.body.bytes + length r.after.bytes + 6 ≡ length p.bytes
  unfolding part part_of
  part_of_size r e =
      let h = then_ok (part p) _ r e in
      let g = holds (eqb h.0.kind k) _ _ r h.2 in
      let o = over_is (placed p) (located p (cut p.bytes)) h.0 h.1 in
      let s = cut_size p.bytes o.0 (located_ok p (cut p.bytes) o.0 o.1) in
      let same : placed p o.0 ≡ r = o.2 ∙ ok_ok g.1 in
      subst (λ (x : Part). length x.body.bytes + length x.after.bytes + 6 ≡ length p.bytes) same s
