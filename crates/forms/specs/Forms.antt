-- What a form is, and a list of forms. Assumes nothing.
use Rattle.std.specs.Prelude.{ℕ, suc, ◌≤◌, Bool, false, cond, ◌||◌, List, [], ◌∷◌, length, Some, None, Option}
use Rattle.std.specs.List.{AllByRecursion}
-- nth xs i is what stands at the position i of xs, counted from 0
pub use Rattle.std.specs.List.{slice_get as nth}
use Rattle.std.specs.Str.{bytes_eq}
use Rattle.tree.specs.Numbers.{Allowed}

-- the names that a record of the caller wants, in order; a name may come again
abbrev pub Form : Type 0
Form = List (List ℕ)

-- whether the form has a name
abbrev pub has : Form → List ℕ → Bool
has [] m = false
has (x ∷ xs) m = bytes_eq x m || has xs m

abbrev pub position_from : ℕ → Form → List ℕ → Option ℕ
position_from i [] m = None
position_from i (x ∷ xs) m = cond (bytes_eq x m) (Some i) (position_from (suc i) xs m)

-- the first position of a name in the form; None where the form has it not
abbrev pub position_of : Form → List ℕ → Option ℕ
position_of f m = position_from 0 f m

abbrev pub form_or : Option Form → Form
form_or None = []
form_or (Some f) = f

-- the form with a number; the empty one where there is none
abbrev pub form_of : List Form → ℕ → Form
form_of fs i = form_or (nth fs i)

-- the name at a position of a form, by the form's number; None where there is none
abbrev pub name_at : List Form → ℕ → ℕ → Option (List ℕ)
name_at fs i j = nth (form_of fs i) j

pub record NameFits (m : List ℕ) : Type 0 where
  pub allowed : Allowed m
  pub short : length m ≤ 255

pub record FormFits (f : Form) : Type 0 where
  pub few : length f ≤ 65535
  pub names : AllByRecursion NameFits f

-- the limits of every list of forms that a set means
pub record Lawful (fs : List Form) : Type 0 where
  pub few : length fs ≤ 65535
  pub forms : AllByRecursion FormFits fs
