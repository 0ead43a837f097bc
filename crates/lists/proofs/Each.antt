-- Laws of lists made element by element. Assumes nothing.
use Rattle.std.proofs.Common.{◌≡◌, ◌+◌, Bool, true, false, cond, List, [], ◌∷◌, ◌++◌, map, filter, sym, refl, ap, ◌∙◌, ap₂, append_assoc, arith}
use Rattle.std.specs.List.{AllByRecursion}
use Rattle.lists.specs.Each.{for_each, times, Subsequence, empty, kept, passed}

pub each_++ : {X Y : Type 0} (g : X → List Y) (xs ys : List X) → for_each g (xs ++ ys) ≡ for_each g xs ++ for_each g ys
each_++ g [] ys = refl
each_++ g (x ∷ xs) ys = ap (λ l. g x ++ l) (each_++ g xs ys) ∙ sym (append_assoc (g x) (for_each g xs) (for_each g ys))

-- one pass after another is one pass
pub each_each : {X Y Z : Type 0} (g : Y → List Z) (h : X → List Y) (xs : List X) → for_each g (for_each h xs) ≡ for_each (λ x. for_each g (h x)) xs
each_each g h [] = refl
each_each g h (x ∷ xs) = each_++ g (h x) (for_each h xs) ∙ ap (λ l. for_each g (h x) ++ l) (each_each g h xs)

pub each_map : {X Y Z : Type 0} (g : Y → List Z) (h : X → Y) (xs : List X) → for_each g (map h xs) ≡ for_each (λ x. g (h x)) xs
each_map g h [] = refl
each_map g h (x ∷ xs) = ap (λ l. g (h x) ++ l) (each_map g h xs)

pub each_same : {X Y : Type 0} (g h : X → List Y) → ((x : X) → g x ≡ h x) → (xs : List X) → for_each g xs ≡ for_each h xs
each_same g h e [] = refl
each_same g h e (x ∷ xs) = ap₂ (λ k l. k ++ l) (e x) (each_same g h e xs)

pub each_none : {X Y : Type 0} (g : X → List Y) → ((x : X) → g x ≡ []) → (xs : List X) → for_each g xs ≡ []
each_none g e [] = refl
each_none g e (x ∷ xs) = ap₂ (λ k l. k ++ l) (e x) (each_none g e xs)

-- what each element gives if it passes is what those that pass give
pub each_kept : {X Y : Type 0} (g : X → List Y) (test : X → Bool) (xs : List X) → for_each (λ x. cond (test x) (g x) []) xs ≡ for_each g (filter test xs)
each_kept g test [] = refl
each_kept g test (x ∷ xs) = go (test x) (each_kept g test xs)
  where
    go : (b : Bool) → for_each (λ y. cond (test y) (g y) []) xs ≡ for_each g (filter test xs)
        → cond b (g x) [] ++ for_each (λ y. cond (test y) (g y) []) xs ≡ for_each g (cond b (x ∷ filter test xs) (filter test xs))
    go true ih = ap (λ l. g x ++ l) ih
    go false ih = ih

pub kept_subsequence : {X : Type 0} (test : X → Bool) (xs : List X) → Subsequence (filter test xs) xs
kept_subsequence test [] = empty
kept_subsequence test (x ∷ xs) = go (test x) (kept_subsequence test xs)
  where
    go : (b : Bool) → Subsequence (filter test xs) xs → Subsequence (cond b (x ∷ filter test xs) (filter test xs)) (x ∷ xs)
    go true h = kept h
    go false h = passed h

pub nothing_subsequence : {X : Type 0} (xs : List X) → Subsequence [] xs
nothing_subsequence [] = empty
nothing_subsequence (x ∷ xs) = passed (nothing_subsequence xs)

pub times_++ : {X : Type 0} (test : X → Bool) (xs ys : List X) → times test (xs ++ ys) ≡ times test xs + times test ys
times_++ test [] ys = omega arith
times_++ test (x ∷ xs) ys = let h = times_++ test xs ys in omega arith

pub of_each : {X : Type 0} (P : X → Type 0) → ((x : X) → P x) → (xs : List X) → AllByRecursion P xs
of_each P h [] = tt
of_each P h (x ∷ xs) = (h x, of_each P h xs)
