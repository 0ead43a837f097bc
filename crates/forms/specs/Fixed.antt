-- The fixed set of forms. Assumes nothing.
use Rattle.std.specs.Prelude.{◌≡◌, ℕ, ◌<◌, Bool, true, ◌&&◌, List, [], ◌∷◌, length, codes, nat_le, nat_lt, refl}
use Rattle.std.proofs.Common.{lit≤}
use Rattle.std.specs.List.{AllByRecursion}
use Rattle.std.proofs.lemmas.Bool.{ltb-true, leb-true, and_parts}
use Rattle.forms.specs.Forms.{Form, NameFits, Lawful}

-- form 0 is a bank's, form 1 a door's
abbrev pub fixed_forms : List Form
fixed_forms =
    (codes "#name" ∷ codes "#0" ∷ codes "street" ∷ [])
    ∷ (codes "#name" ∷ codes "#0" ∷ codes "size" ∷ codes "cool" ∷ [])
    ∷ []

abbrev bytes_below : List ℕ → Bool
bytes_below [] = true
bytes_below (b ∷ bs) = nat_lt b 256 && bytes_below bs

below : (bs : List ℕ) → bytes_below bs ≡ true → AllByRecursion (λ b. b < 256) bs
below [] e = tt
below (b ∷ bs) e = let p = and_parts (nat_lt b 256) (bytes_below bs) e in (ltb-true b 256 p.0, below bs p.1)

fits : (m : List ℕ) → bytes_below m ≡ true → nat_le (length m) 255 ≡ true → NameFits m
fits m e l = record { allowed = below m e; short = leb-true (length m) 255 l }

-- it keeps the limits
pub fixed_lawful : Lawful fixed_forms
fixed_lawful = record {
  few = lit≤ tt;
  forms = (
    record { few = lit≤ tt; names = (fits (codes "#name") refl refl, (fits (codes "#0") refl refl, (fits (codes "street") refl refl, tt))) },
    (
      record { few = lit≤ tt; names = (fits (codes "#name") refl refl, (fits (codes "#0") refl refl, (fits (codes "size") refl refl, (fits (codes "cool") refl refl, tt)))) },
      tt,
    ),
  );
}
