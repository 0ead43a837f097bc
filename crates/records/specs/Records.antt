-- A record in bytes: four bytes of length, which count the six bytes of the head, two bytes of kind, and the body. Assumes nothing.
use Rattle.std.specs.Prelude.{ℕ, ◌+◌, ◌-◌, Bool, true, false, cond, ◌||◌, List, [], ◌∷◌, ◌++◌, length, take, drop, Some, None, Ok, Err, Option, Result, nat_lt}
use Rattle.records.specs.Numbers.{number, low}
use Rattle.records.specs.declared.fault.Cause.{Cause}
use Rattle.records.specs.declared.fault.Cause.TheVariants.{Missing, Length}

-- how a record is written
unfoldable pub record_of : ℕ → List ℕ → List ℕ
record_of kind body = low 4 (6 + length body) ++ (low 2 kind ++ body)

-- a head, and what follows it
pub record Mark : Type 0 where
  pub size : ℕ
  pub kind : ℕ
  pub rest : List ℕ

abbrev pub mark : List ℕ → Option Mark
mark [] = None
mark (a ∷ []) = None
mark (a ∷ b ∷ []) = None
mark (a ∷ b ∷ c ∷ []) = None
mark (a ∷ b ∷ c ∷ d ∷ []) = None
mark (a ∷ b ∷ c ∷ d ∷ k ∷ []) = None
mark (a ∷ b ∷ c ∷ d ∷ k ∷ l ∷ xs) = Some (record { size = number (a ∷ b ∷ c ∷ d ∷ []); kind = number (k ∷ l ∷ []); rest = xs })

abbrev pub none : List ℕ → Bool
none [] = true
none (x ∷ xs) = false

abbrev pub kind_in : Option Mark → ℕ
kind_in None = 0
kind_in (Some m) = m.kind

-- the kind of the record that is to come, or 0
abbrev pub next_kind : List ℕ → ℕ
next_kind bs = kind_in (mark bs)

-- a record cut off the bytes of its holder
pub record Cut : Type 0 where
  pub kind : ℕ
  pub body : List ℕ
  pub rest : List ℕ

abbrev pub cut_by : Option Mark → Result Cut Cause
cut_by None = Err Length
cut_by (Some m) =
    cond (nat_lt m.size 6 || nat_lt (length m.rest) (m.size - 6)) (Err Length)
    (Ok (record { kind = m.kind; body = take (m.size - 6) m.rest; rest = drop (m.size - 6) m.rest }))

-- the record that begins bytes, whatever its kind
unfoldable pub cut : List ℕ → Result Cut Cause
cut bs = cond (none bs) (Err Missing) (cut_by (mark bs))
