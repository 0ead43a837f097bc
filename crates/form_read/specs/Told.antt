-- What a sink was told of a listed set. Assumes nothing.
use Rattle.std.specs.Prelude.{◌≡◌, ℕ, List, [], ◌++◌, length, Ok, Err, Result}
use Rattle.records.specs.Places.{Place}
use Rattle.records.specs.declared.stop.Stop.{Stop}
use Rattle.records.specs.declared.stop.Stop.TheVariants.{Fault, Sink}
use Rattle.forms.specs.Forms.{Form}
use Rattle.form_format.specs.Reading.{filled, name, form, set_in}

-- what a sink was told, and the type of its errors
module _ (told : List Form → Form → Type 0) {E : Type 0} where
  -- of the names that fill p, behind the forms fs and the names ms
  abbrev pub ToldNames : List Form → Form → Place → Result (Unit {0}) (Stop E) → Type 0
  ToldNames fs ms p (Ok t) = (xs : Form) × (Ok xs ≡ filled name (length p.bytes) 0 p) × told fs (ms ++ xs)
  ToldNames fs ms p (Err (Fault c)) = Err c ≡ filled name (length p.bytes) 0 p
  ToldNames fs ms p (Err (Sink e)) = Unit {0}

  -- of the forms that fill p, behind nothing
  abbrev pub ToldForms : Place → Result (Unit {0}) (Stop E) → Type 0
  ToldForms p (Ok t) = (fs : List Form) × (Ok fs ≡ filled form (length p.bytes) 0 p) × told fs []
  ToldForms p (Err (Fault c)) = Err c ≡ filled form (length p.bytes) 0 p
  ToldForms p (Err (Sink e)) = Unit {0}

  -- of the whole set, behind nothing
  abbrev pub ToldSet : List ℕ → Result (Unit {0}) (Stop E) → Type 0
  ToldSet bs (Ok t) = (fs : List Form) × (Ok fs ≡ set_in bs) × told fs []
  ToldSet bs (Err (Fault c)) = Err c ≡ set_in bs
  ToldSet bs (Err (Sink e)) = Unit {0}
