-- The list of forms that bytes hold, or their first fault. Assumes nothing.
use Rattle.std.specs.Prelude.{ℕ, zero, suc, Bool, false, cond, ◌&&◌, ◌||◌, List, [], ◌∷◌, length, Some, None, Ok, Err, Option, ◌==◌, nat_le, nat_lt}
use Rattle.tree.specs.Outcome.{and_then}
use Rattle.records.specs.Records.{Mark, mark, none}
use Rattle.records.specs.Places.{Place, Part, Read, fault, part_of, start}
use Rattle.records.specs.declared.fault.Cause.TheVariants.{Size}
use Rattle.forms.specs.Forms.{Form}

-- the elements that fill p, each read by one, which is told how many stand before it; n stand before the first, and g bounds how many there are
unfoldable pub filled : {X : Type 0} → (ℕ → Place → Read (X × Place)) → ℕ → ℕ → Place → Read (List X)
filled one zero n p = Ok []
filled one (suc g) n p = cond (none p.bytes) (Ok [])
    (and_then (one n p) (λ x. and_then (filled one g (suc n) x.1) (λ xs. Ok (x.0 ∷ xs))))

-- a head of a name with more than 255 bytes, whatever stands behind the head
abbrev pub is_long : Option Mark → Bool
is_long None = false
is_long (Some m) = m.kind == 33 && nat_lt 261 m.size

-- the record of the name at p; n names of its form stand before it
unfoldable pub name_part : ℕ → Place → Read Part
name_part n p = cond (nat_le 256 n || is_long (mark p.bytes)) (fault p Size) (part_of 33 p)

unfoldable pub name : ℕ → Place → Read (List ℕ × Place)
name n p = and_then (name_part n p) (λ r. Ok (r.body.bytes, r.after))

-- the record of the form at p; n forms stand before it
unfoldable pub form_part : ℕ → Place → Read Part
form_part n p = cond (nat_le 64 n) (fault p Size) (part_of 32 p)

unfoldable pub form : ℕ → Place → Read (Form × Place)
form n p = and_then (form_part n p) (λ r. and_then (filled name (length r.body.bytes) 0 r.body) (λ f. Ok (f, r.after)))

-- the forms that bs hold
abbrev pub set_in : List ℕ → Read (List Form)
set_in bs = cond (nat_lt 1048576 (length bs)) (fault (start bs) Size) (filled form (length bs) 0 (start bs))

abbrev pub held : Read (List Form) → List Form
held (Ok fs) = fs
held (Err e) = []

-- the forms that are made of bytes: none where the bytes are unsound
abbrev pub forms_in : List ℕ → List Form
forms_in bs = held (set_in bs)
