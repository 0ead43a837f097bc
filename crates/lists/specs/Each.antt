-- Lists made element by element, and their order. Assumes nothing.
use Rattle.std.specs.Prelude.{ℕ, ◌+◌, Bool, true, false, cond, List, [], ◌∷◌, ◌++◌, Some, None, Option}

-- x, if b
abbrev pub when : {X : Type 0} → Bool → X → List X
when true x = x ∷ []
when false x = []

-- what g gives of an x that is there
abbrev pub if_some : {X Y : Type 0} → Option X → (X → List Y) → List Y
if_some None g = []
if_some (Some x) g = g x

-- what g gives of each element, in order
abbrev pub for_each : {X Y : Type 0} → (X → List Y) → List X → List Y
for_each g [] = []
for_each g (x ∷ xs) = g x ++ for_each g xs

-- how many pass
abbrev pub times : {X : Type 0} → (X → Bool) → List X → ℕ
times test [] = 0
times test (x ∷ xs) = cond (test x) 1 0 + times test xs

-- the first list is the second without some of its elements: the order is the same
pub data Subsequence {X : Type 0} : List X → List X → Type 0 where
  empty : Subsequence [] []
  kept : {x : X} {xs ys : List X} → Subsequence xs ys → Subsequence (x ∷ xs) (x ∷ ys)
  passed : {y : X} {xs ys : List X} → Subsequence xs ys → Subsequence xs (y ∷ ys)
