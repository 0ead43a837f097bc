-- One item handed out of a list. Assumes nothing.
use Rattle.std.specs.Prelude.{◌≡◌, List, [], ◌∷◌, Some, None, Option}

-- the first of xs, and ys are those behind it; or there is none. What is handed out stands for an item
abbrev pub Hands : {X Y : Type 0} → (X → Y) → List Y → Option X → List Y → Type 0
Hands means xs None ys = (xs ≡ []) × (ys ≡ [])
Hands means xs (Some x) ys = xs ≡ means x ∷ ys
