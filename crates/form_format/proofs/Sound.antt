-- What is read as a name or a form was written there, within the limits. Assumes nothing.
use Rattle.std.proofs.Common.{◌≡◌, ℕ, ◌+◌, ◌≤◌, false, ◌||◌, eqb, leb, List, length, Some, Ok, ap, ◌∙◌, subst, arith}
use Rattle.std.proofs.lemmas.Bool.{leb-false, ltb-false, or_parts, eq-eqb}
use Rattle.records.specs.Records.{record_of, Mark, mark, cut}
use Rattle.records.specs.Places.{Place, Part, located, placed, part, part_of}
use Rattle.records.proofs.Results.{ok_ok, then_ok, passes, over_is, holds}
use Rattle.records.proofs.Cutting.{record_long, cut_mark}
use Rattle.records.proofs.Parts.{Goes, located_ok, part_of_is}
use Rattle.forms.specs.Forms.{Form, NameFits}
use Rattle.form_format.specs.Reading.{filled, is_long, name_part, name, form_part, form}
use Rattle.form_format.specs.Writing.{each, name_of, form_of}
use Rattle.form_format.specs.Law.{FormFits}
use Rattle.form_format.proofs.Filling.{Takes, Sound, fills}

-- a record that is found has the length and the kind that its head says
part_mark : (k : ℕ) (p : Place) (r : Part) → part_of k p ≡ Ok r → (m : Mark) × (mark p.bytes ≡ Some m) × (m.size ≡ 6 + length r.body.bytes) × (m.kind ≡ r.kind)
unfolding part part_of
part_mark k p r e =
    let h = then_ok (part p) _ r e in
    let g = holds (eqb h.0.kind k) _ _ r h.2 in
    let o = over_is (placed p) (located p (cut p.bytes)) h.0 h.1 in
    let c = cut_mark p.bytes o.0 (located_ok p (cut p.bytes) o.0 o.1) in
    let same : placed p o.0 ≡ r = o.2 ∙ ok_ok g.1 in
    (c.0, c.1, c.2 ∙ ap (λ (x : Part). 6 + length x.body.bytes) same, c.3 ∙ ap (λ (x : Part). x.kind) same)

-- a head of a name that is not too long
short_name : (m : Mark) → m.kind ≡ 33 → is_long (Some m) ≡ false → m.size ≤ 261
short_name m k e = ltb-false 261 m.size (rw (eq-eqb m.kind 33 k) at e)

pub name_sound : Sound name name_of NameFits 256
unfolding name name_part
name_sound n p x q b e =
    let h = then_ok (name_part n p) _ (x, q) e in
    let r = h.0 in
    let g = passes (leb 256 n || is_long (mark p.bytes)) _ _ r h.1 in
    let t = or_parts (leb 256 n) (is_long (mark p.bytes)) g.0 in
    let is = part_of_is 33 p r b g.1 in
    let m = part_mark 33 p r g.1 in
    let size = m.2 in
    let small = short_name m.0 (m.3 ∙ is.1) (subst (λ o. is_long o ≡ false) m.1 t.1) in
    let long = record_long 33 r.body.bytes in
    let P : List ℕ × Place → Type 0 = λ y. Takes name name_of NameFits 256 n p y.0 y.1 in
    subst P (ok_ok h.2) (record {
      goes = subst (λ k. Goes p (record_of k r.body.bytes) r.after) is.1 is.0.goes;
      long = omega arith;
      before = leb-false 256 n t.0;
      fits = record { allowed = is.0.inner; short = omega arith };
    })

pub form_sound : Sound form form_of FormFits 64
unfolding form form_part
form_sound n p x q b e =
    let h = then_ok (form_part n p) _ (x, q) e in
    let r = h.0 in
    let g = passes (leb 64 n) _ _ r h.1 in
    let is = part_of_is 32 p r b g.1 in
    let k = then_ok (filled name (length r.body.bytes) 0 r.body) _ (x, q) h.2 in
    let f = fills name name_of NameFits 256 name_sound (length r.body.bytes) 0 r.body.at r.body.bytes k.0 is.0.inner (omega arith) (omega arith) k.1 in
    let few = f.few in
    let long = record_long 32 (each name_of k.0) in
    let P : Form × Place → Type 0 = λ y. Takes form form_of FormFits 64 n p y.0 y.1 in
    let Q : List ℕ → Type 0 = λ z. Goes p (record_of 32 z) r.after in
    subst P (ok_ok k.2) (record {
      goes = subst Q f.written (subst (λ j. Goes p (record_of j r.body.bytes) r.after) is.1 is.0.goes);
      long = omega arith;
      before = leb-false 64 n g.0;
      fits = record { few = omega arith; names = f.fit };
    })
