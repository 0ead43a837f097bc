-- Bytes in hexadecimal digits. Assumes nothing.
use Rattle.std.specs.Prelude.{ℕ, ◌+◌, ◌-◌, ◌*◌, cond, ◌&&◌, List, [], ◌∷◌, Some, None, Option, nat_le}

-- the number of a digit 0 to 9 or a to f
abbrev pub digit : ℕ → Option ℕ
digit c = cond (nat_le 48 c && nat_le c 57) (Some (c - 48)) (cond (nat_le 97 c && nat_le c 102) (Some (c - 87)) None)

abbrev pub pair : Option ℕ → Option ℕ → Option ℕ
pair None l = None
pair (Some h) None = None
pair (Some h) (Some l) = Some (16 * h + l)

abbrev pub before : Option ℕ → Option (List ℕ) → Option (List ℕ)
before None bs = None
before (Some b) None = None
before (Some b) (Some bs) = Some (b ∷ bs)

-- the bytes that digits stand for, two for each; None where there is another character, or a single digit at the end
abbrev pub bytes_in : List ℕ → Option (List ℕ)
bytes_in [] = Some []
bytes_in (h ∷ []) = None
bytes_in (h ∷ l ∷ cs) = before (pair (digit h) (digit l)) (bytes_in cs)
