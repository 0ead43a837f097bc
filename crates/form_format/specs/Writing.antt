-- The bytes that a list of forms is written as. Assumes nothing.
use Rattle.std.specs.Prelude.{ℕ, List, [], ◌∷◌, ◌++◌}
use Rattle.records.specs.Records.{record_of}
use Rattle.forms.specs.Forms.{Form}

-- one behind the other
abbrev pub each : {X : Type 0} → (X → List ℕ) → List X → List ℕ
each w [] = []
each w (x ∷ xs) = w x ++ each w xs

-- a name is a record of kind 33, whose body is the name
abbrev pub name_of : List ℕ → List ℕ
name_of m = record_of 33 m

-- a form is a record of kind 32, which holds its names in order
abbrev pub form_of : Form → List ℕ
form_of f = record_of 32 (each name_of f)

abbrev pub forms_of : List Form → List ℕ
forms_of fs = each form_of fs
