-- Values under numbers. Assumes nothing.
use Rattle.std.specs.Prelude.{ℕ, cond, List, [], ◌∷◌, map, Some, None, Option, ◌==◌}
use Rattle.index.specs.declared.keyed.Keyed.{Keyed}

abbrev pub keys : {V : Type 0} → List (Keyed V) → List ℕ
keys xs = map (λ x. x.key) xs

-- the number of the first value
abbrev pub first_key : {V : Type 0} → List (Keyed V) → Option ℕ
first_key [] = None
first_key (x ∷ xs) = Some x.key

-- the value under the first k
abbrev pub lookup : {V : Type 0} → List (Keyed V) → ℕ → Option V
lookup [] k = None
lookup (x ∷ xs) k = cond (x.key == k) (Some x.value) (lookup xs k)
