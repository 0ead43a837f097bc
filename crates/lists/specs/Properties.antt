-- The properties in force: of those of one name, the last. Assumes nothing.
use Rattle.std.specs.Prelude.{◌≡◌, ℕ, Bool, false, cond, ◌||◌, List, [], ◌∷◌, ◌++◌}
use Rattle.std.specs.Str.{bytes_eq}
use Rattle.tree.specs.Document.{Property}

-- whether one of the properties has the name
abbrev pub is_property : List Property → List ℕ → Bool
is_property [] m = false
is_property (p ∷ ps) m = bytes_eq p.name.bytes m || is_property ps m

-- those that no later one has the name of, in their order
abbrev pub in_force : List Property → List Property
in_force [] = []
in_force (p ∷ ps) = cond (is_property ps p.name.bytes) (in_force ps) (p ∷ in_force ps)

-- p is one of the properties, and no later one has its name
pub record InForce (ps : List Property) (p : Property) : Type 0 where
  pub before : List Property
  pub after : List Property
  pub among : ps ≡ before ++ p ∷ after
  pub no_later : is_property after p.name.bytes ≡ false
