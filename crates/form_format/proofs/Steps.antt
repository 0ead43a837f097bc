-- One name and one form, as the code reads them. Assumes nothing.
use Rattle.std.proofs.Common.{◌≡◌, ℕ, ◌+◌, ◌<◌, ◌≤◌, ◌||◌, leb, cond, List, length, Ok, Err, sym, refl, ap, subst, arith}
use Rattle.std.proofs.lemmas.Bool.{leb-false, le-leb, lt-leb, or_parts, cond-true, cond-false}
use Rattle.tree.specs.Outcome.{and_then}
use Rattle.records.specs.Records.{mark}
use Rattle.records.specs.Places.{Place, Part, fault, part_of}
use Rattle.records.specs.declared.fault.Cause.TheVariants.{Size}
use Rattle.records.specs.declared.fault.RecordFault.{RecordFault}
use Rattle.records.proofs.Results.{ok_ok, then_ok, then_is, passes}
use Rattle.records.proofs.Parts.{part_of_size}
use Rattle.forms.specs.Forms.{Form}
use Rattle.form_format.specs.Reading.{filled, is_long, name_part, name, form_part, form}
use Rattle.form_format.proofs.Going.{Shrinks}

-- a record that holds a part of the set: how many stand before it, and how long it is
pub record Cuts (n most : ℕ) (p : Place) (r : Part) : Type 0 where
  pub before : n < most
  pub size : length r.body.bytes + length r.after.bytes + 6 ≡ length p.bytes

module _ (n : ℕ) (p : Place) where
  pub name_cuts : (r : Part) → Ok r ≡ name_part n p → Cuts n 256 p r
  unfolding name_part
  name_cuts r e =
      let g = passes (leb 256 n || is_long (mark p.bytes)) _ _ r (sym e) in
      let t = or_parts (leb 256 n) (is_long (mark p.bytes)) g.0 in
      record { before = leb-false 256 n t.0; size = part_of_size 33 p r g.1 }

  pub name_read : (r : Part) → Ok r ≡ name_part n p → name n p ≡ Ok (r.body.bytes, r.after)
  unfolding name
  name_read r e = then_is _ _ _ _ (sym e) refl

  pub name_refused : (e : RecordFault) → Err e ≡ name_part n p → name n p ≡ Err e
  unfolding name
  name_refused e h = ap (λ m. and_then m (λ (r : Part). Ok (r.body.bytes, r.after))) (sym h)

  pub form_cuts : (r : Part) → Ok r ≡ form_part n p → Cuts n 64 p r
  unfolding form_part
  form_cuts r e =
      let g = passes (leb 64 n) _ _ r (sym e) in
      record { before = leb-false 64 n g.0; size = part_of_size 32 p r g.1 }

  pub form_read : (r : Part) (f : Form) → Ok r ≡ form_part n p → Ok f ≡ filled name (length r.body.bytes) 0 r.body → form n p ≡ Ok (f, r.after)
  unfolding form
  form_read r f e h = then_is _ _ _ _ (sym e) (then_is _ _ _ _ (sym h) refl)

  pub form_refused : (e : RecordFault) → Err e ≡ form_part n p → form n p ≡ Err e
  unfolding form
  form_refused e h = ap (λ m. and_then m (λ (r : Part). and_then (filled name (length r.body.bytes) 0 r.body) (λ f. Ok (f, r.after)))) (sym h)

  pub names_refused : (r : Part) (e : RecordFault) → Ok r ≡ form_part n p → Err e ≡ filled name (length r.body.bytes) 0 r.body → form n p ≡ Err e
  unfolding form
  names_refused r e h k = then_is _ _ _ _ (sym h) (ap (λ m. and_then m (λ f. Ok (f, r.after))) (sym k))

-- fewer than 256 names stand before a name
pub name_below : (n : ℕ) (p : Place) → n < 256 → cond (is_long (mark p.bytes)) (fault p Size) (part_of 33 p) ≡ name_part n p
unfolding name_part
name_below n p l = ap (λ b. cond (b || is_long (mark p.bytes)) (fault p Size) (part_of 33 p)) (sym (lt-leb 256 n l))

-- fewer than 64 forms stand before a form
pub form_below : (n : ℕ) (p : Place) → n < 64 → part_of 32 p ≡ form_part n p
unfolding form_part
form_below n p l = sym (cond-false _ _ _ (lt-leb 64 n l))

-- no name stands behind 256 names, and no form behind 64 forms
pub names_full : (n : ℕ) (p : Place) → 256 ≤ n → fault p Size ≡ name_part n p
unfolding name_part
names_full n p l = ap (λ b. cond (b || is_long (mark p.bytes)) (fault p Size) (part_of 33 p)) (sym (le-leb 256 n l))

pub forms_full : (n : ℕ) (p : Place) → 64 ≤ n → fault p Size ≡ form_part n p
unfolding form_part
forms_full n p l = sym (cond-true _ _ _ (le-leb 64 n l))

pub name_shrinks : Shrinks name
unfolding name
name_shrinks n p x q e =
    let h = then_ok (name_part n p) _ (x, q) e in
    let s = (name_cuts n p h.0 (sym h.1)).size in
    let same : h.0.after ≡ q = ap (λ (y : List ℕ × Place). y.1) (ok_ok h.2) in
    subst (λ (z : Place). length z.bytes < length p.bytes) same (omega arith)

pub form_shrinks : Shrinks form
unfolding form
form_shrinks n p x q e =
    let h = then_ok (form_part n p) _ (x, q) e in
    let k = then_ok (filled name (length h.0.body.bytes) 0 h.0.body) _ (x, q) h.2 in
    let s = (form_cuts n p h.0 (sym h.1)).size in
    let same : h.0.after ≡ q = ap (λ (y : Form × Place). y.1) (ok_ok k.2) in
    subst (λ (z : Place). length z.bytes < length p.bytes) same (omega arith)
