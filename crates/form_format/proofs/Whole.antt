-- The reading of a listed set and its writing are one another's inverse. Assumes nothing.
use Rattle.std.proofs.Common.{◌≡◌, ℕ, ◌+◌, ◌≤◌, false, eqb, ltb, leb, List, [], ◌∷◌, ◌++◌, length, Ok, Err, sym, refl, ap, ◌∙◌, subst, arith}
use Rattle.std.specs.List.{AllByRecursion}
use Rattle.std.proofs.lemmas.Bool.{lt-leb, le-ltb, ltb-false, or_from, and_right, cond-false}
use Rattle.records.specs.Numbers.{Bytes}
use Rattle.records.specs.Records.{record_of, mark}
use Rattle.records.specs.Places.{Read}
use Rattle.records.proofs.Results.{ok_ok, passes, then_is}
use Rattle.records.proofs.Cutting.{record_long, cuts, cut_mark, some_bytes}
use Rattle.records.proofs.Parts.{place, part_of_reads}
use Rattle.forms.specs.Forms as forms
use Rattle.forms.specs.Forms.{Form, NameFits}
use Rattle.form_format.specs.Reading.{filled, is_long, name_part, name, form_part, form, set_in, held, forms_in}
use Rattle.form_format.specs.Writing.{each, name_of, form_of}
use Rattle.form_format.specs.Law.{FormFits, Exact, Law, Unique, Made}
use Rattle.form_format.proofs.Filling.{Whole, fills, fills_back}
use Rattle.form_format.proofs.Sound.{form_sound}

-- the head of a short name is not too long
not_long : (m rest : List ℕ) → length m ≤ 255 → is_long (mark (record_of 33 m ++ rest)) ≡ false
not_long m rest short =
    let long = record_long 33 m in
    let c = cut_mark (record_of 33 m ++ rest) _ (cuts 33 m rest (omega arith) (omega arith)) in
    let size = c.2 in
    subst (λ o. is_long o ≡ false) (sym c.1) (and_right (eqb c.0.kind 33) (ltb 261 c.0.size) (le-ltb 261 c.0.size (omega arith)))

pub name_whole : Whole name name_of NameFits 256
unfolding name name_part
name_whole n at m rest before fits short =
    let long = record_long 33 m in
    let few = or_from (leb 256 n) (is_long (mark (record_of 33 m ++ rest))) (lt-leb 256 n before) (not_long m rest fits.short) in (
      omega arith,
      some_bytes 33 m rest,
      then_is _ _ _ _ (cond-false _ _ _ few ∙ part_of_reads 33 at m rest (omega arith) short) refl,
    )

pub form_whole : Whole form form_of FormFits 64
unfolding form form_part
form_whole n at f rest before fits short =
    let long = record_long 32 (each name_of f) in
    let few = fits.few in (
      omega arith,
      some_bytes 32 (each name_of f) rest,
      then_is _ _ _ _ (cond-false _ _ _ (lt-leb 64 n before) ∙ part_of_reads 32 at (each name_of f) rest (omega arith) short)
          (then_is _ _ _ _ (fills_back name name_of NameFits 256 name_whole (length (each name_of f)) 0 (at + 6) f fits.names (omega arith) (omega arith) (omega arith)) refl),
    )

pub accepted : (bs : List ℕ) (fs : List Form) → Bytes bs → set_in bs ≡ Ok fs → Exact bs fs
accepted bs fs b e =
    let g = passes (ltb 1048576 (length bs)) _ _ fs e in
    let f = fills form form_of FormFits 64 form_sound (length bs) 0 0 bs fs b (omega arith) (omega arith) g.1 in
    let few = f.few in
    record { written = f.written; few = omega arith; forms = f.fit; short = ltb-false 1048576 (length bs) g.0 }

pub complete : (bs : List ℕ) (fs : List Form) → Exact bs fs → set_in bs ≡ Ok fs
complete bs fs x =
    let size = ap length x.written in
    let short = x.short in
    let few = x.few in
    cond-false _ _ _ (le-ltb 1048576 (length bs) short)
    ∙ ap (λ z. filled form (length bs) 0 (place 0 z)) x.written
    ∙ fills_back form form_of FormFits 64 form_whole (length bs) 0 0 fs x.forms (omega arith) (omega arith) (omega arith)

pub law : Law
law bs fs b = (accepted bs fs b, complete bs fs)

pub unique : (bs : List ℕ) → Unique bs
unique bs a b x y = ok_ok (sym (complete bs a x) ∙ complete bs b y)

pub made : (bs : List ℕ) → Bytes bs → Made bs (forms_in bs)
made bs b = record {
  is = refl;
  sound = λ gs x. ap held (complete bs gs x);
  unsound = λ never. go never (set_in bs) refl;
}
  where
    go : ((gs : List Form) → Exact bs gs → ⊥) → (o : Read (List Form)) → set_in bs ≡ o → held o ≡ []
    go never (Ok fs) e = absurd (never fs (accepted bs fs b e))
    go never (Err d) e = refl

listed_fits : (fs : List Form) → AllByRecursion FormFits fs → AllByRecursion forms.FormFits fs
listed_fits [] h = tt
listed_fits (f ∷ fs) h = let few = h.0.few in (record { few = omega arith; names = h.0.names }, listed_fits fs h.1)

-- the forms that are made of bytes keep the limits
pub lawful_set : (bs : List ℕ) → Bytes bs → forms.Lawful (forms_in bs)
lawful_set bs b = go (set_in bs) refl
  where
    go : (o : Read (List Form)) → set_in bs ≡ o → forms.Lawful (held o)
    go (Ok fs) e = let x = accepted bs fs b e in let few = x.few in record { few = omega arith; forms = listed_fits fs x.forms }
    go (Err d) e = record { few = omega arith; forms = tt }
