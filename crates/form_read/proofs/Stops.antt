-- How telling of a listed set stops. Assumes nothing.
use Rattle.std.proofs.Common.{◌≡◌, ℕ, ◌≤◌, false, eqb, List, [], length, Ok, Err, Result, sym, ◌∙◌, subst}
use Rattle.std.proofs.lemmas.Bool.{le-ltb, cond-false}
use Rattle.records.specs.Places.{Place, Part, start}
use Rattle.records.specs.declared.fault.RecordFault.{RecordFault}
use Rattle.records.specs.declared.stop.Stop.{Stop}
use Rattle.records.specs.declared.stop.Stop.TheVariants.{Fault, Sink}
use Rattle.forms.specs.Forms.{Form}
use Rattle.form_format.specs.Reading.{filled, form_part, form, set_in}
use Rattle.form_format.proofs.Going.{Going, going_start, going_fault}
use Rattle.form_format.proofs.Steps.{form_shrinks, names_refused}
use Rattle.form_read.specs.Told.{ToldNames, ToldForms, ToldSet}

-- a set that is not too long is read from its start on
pub set_start : (bs : List ℕ) → length bs ≤ 1048576 → Going form (set_in bs) [] 0 (start bs)
set_start bs short g l = going_start form form_shrinks (start bs) g l ∙ sym (cond-false _ _ _ (le-ltb 1048576 (length bs) short))

module _ (told : List Form → Form → Type 0) {E : Type 0} where
  -- the names of the form at p, behind the forms fs, were not told to their end
  pub set_stopped : (e : Stop E) (from : Place) (fs : List Form) (n : ℕ) (p : Place) (r : Part) → Going form (filled form (length from.bytes) 0 from) fs n p → false ≡ eqb (length p.bytes) 0 → Ok r ≡ form_part n p
      → ToldNames told fs [] r.body (Err e) → ToldForms told from (Err e)
  set_stopped (Fault c) from fs n p r going isnt h k = going_fault form _ fs n p going c isnt (names_refused n p r c h k)
  set_stopped (Sink k0) from fs n p r going isnt h k = k

  -- a set that is not too long is its forms
  pub set_told : (bs : List ℕ) (r : Result (Unit {0}) (Stop E)) → length bs ≤ 1048576 → ToldForms told (start bs) r → ToldSet told bs r
  set_told bs (Ok t) short k = (k.0, k.1 ∙ sym (cond-false _ _ _ (le-ltb 1048576 (length bs) short)), k.2)
  set_told bs (Err (Fault c)) short k = k ∙ sym (cond-false _ _ _ (le-ltb 1048576 (length bs) short))
  set_told bs (Err (Sink e)) short k = k

  -- the set's fault, where telling stopped at one
  pub at_fault : (bs : List ℕ) (s : Stop E) (c : RecordFault) → s ≡ Fault c → ToldSet told bs (Err s) → Err c ≡ set_in bs
  at_fault bs s c is t = subst (λ z. ToldSet told bs (Err z)) is t
