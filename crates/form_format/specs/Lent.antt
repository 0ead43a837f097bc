-- What kept lists of names stand for. Assumes nothing.
use Rattle.std.specs.Prelude.{ℕ, List, map, Vec, vec_items}
use denote.Ref.{Bor}
use Rattle.forms.specs.Forms.{Form}

-- a form, of names that are lent
abbrev pub form_lent : {A : Type 0} → Vec (Bor (List ℕ)) A → Form
form_lent v = map (λ x. x.now) (vec_items v)

abbrev pub forms_lent : {A B : Type 0} → Vec (Vec (Bor (List ℕ)) A) B → List Form
forms_lent v = map form_lent (vec_items v)
