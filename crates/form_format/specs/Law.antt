-- Reading and writing a list of forms are one another's inverse. Assumes nothing.
use Rattle.std.specs.Prelude.{◌≡◌, ℕ, ◌+◌, ◌≤◌, List, [], ◌∷◌, length, Ok, Err, Result}
use Rattle.std.specs.List.{AllByRecursion}
use Rattle.records.specs.Numbers.{Bytes}
use Rattle.records.specs.declared.fault.RecordFault.{RecordFault}
use Rattle.forms.specs.Forms.{Form, NameFits}
use Rattle.form_format.specs.Reading.{set_in, forms_in}
use Rattle.form_format.specs.Writing.{forms_of}
use Rattle.form_format.specs.declared.counts.FormCounts.{FormCounts}

-- a form of a listed set
pub record FormFits (f : Form) : Type 0 where
  pub few : length f ≤ 256
  pub names : AllByRecursion NameFits f

-- bs is the writing of fs, within the limits of a listed set
pub record Exact (bs : List ℕ) (fs : List Form) : Type 0 where
  pub written : bs ≡ forms_of fs
  pub few : length fs ≤ 64
  pub forms : AllByRecursion FormFits fs
  pub short : length bs ≤ 1048576

-- what is read from bytes is the list of forms that they are the writing of, and there is no other
abbrev pub Law : Type 0
Law = (bs : List ℕ) (fs : List Form) → Bytes bs → (set_in bs ≡ Ok fs → Exact bs fs) × (Exact bs fs → set_in bs ≡ Ok fs)

-- how many names the forms have
abbrev pub names_count : List Form → ℕ
names_count [] = 0
names_count (f ∷ fs) = length f + names_count fs

abbrev pub counts_of : List Form → FormCounts
counts_of fs = record { forms = length fs; names = names_count fs }

-- bytes are accepted, with the counts of their forms and names, exactly if they are the writing of a list of forms
abbrev pub Accepts : List ℕ → Result FormCounts RecordFault → Type 0
Accepts bs (Ok c) = (fs : List Form) × Exact bs fs × (c ≡ counts_of fs)
Accepts bs (Err e) = (fs : List Form) → Exact bs fs → ⊥

-- bytes are the writing of at most one list of forms
abbrev pub Unique : List ℕ → Type 0
Unique bs = (a b : List Form) → Exact bs a → Exact bs b → a ≡ b

-- what is made of bytes is the list of forms that they are the writing of, or none
pub record Made (bs : List ℕ) (fs : List Form) : Type 0 where
  pub is : fs ≡ forms_in bs
  pub sound : (gs : List Form) → Exact bs gs → fs ≡ gs
  pub unsound : ((gs : List Form) → Exact bs gs → ⊥) → fs ≡ []
