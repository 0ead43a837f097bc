-- Lists that stand in a list. Assumes nothing.
use Rattle.std.proofs.Common.{◌≡◌, ℕ, ◌+◌, ◌≤◌, List, [], ◌∷◌, ◌++◌, length, take, drop, sym, refl, ap, ◌∙◌, subst, append_assoc, arith, length-append}
use Rattle.std.specs.List.{AllByRecursion}

-- xs stand in ys from at on
pub record At {X : Type 0} (ys : List X) (at : ℕ) (xs : List X) : Type 0 where
  pub before : List X
  pub behind : List X
  pub whole : ys ≡ before ++ (xs ++ behind)
  pub long : length before ≡ at

pub left : {X : Type 0} (ys : List X) (at : ℕ) (xs zs : List X) → At ys at (xs ++ zs) → At ys at xs
left ys at xs zs a = record { before = a.before; behind = zs ++ a.behind; whole = a.whole ∙ ap (λ l. a.before ++ l) (append_assoc xs zs a.behind); long = a.long }

pub right : {X : Type 0} (ys : List X) (at : ℕ) (xs zs : List X) → At ys at (xs ++ zs) → At ys (at + length xs) zs
right ys at xs zs a = record {
  before = a.before ++ xs;
  behind = a.behind;
  whole = a.whole ∙ ap (λ l. a.before ++ l) (append_assoc xs zs a.behind) ∙ sym (append_assoc a.before xs (zs ++ a.behind));
  long = length-append a.before xs ∙ ap (λ n. n + length xs) a.long;
}

pub drops : {X : Type 0} (a b : List X) → drop (length a) (a ++ b) ≡ b
drops [] b = refl
drops (x ∷ a) b = drops a b

takes : {X : Type 0} (a b : List X) → take (length a) (a ++ b) ≡ a
takes [] b = refl
takes (x ∷ a) b = ap (λ l. x ∷ l) (takes a b)

-- they are what is cut out there
pub cuts : {X : Type 0} (ys : List X) (at : ℕ) (xs : List X) → At ys at xs → take (length xs) (drop at ys) ≡ xs
cuts ys at xs a =
    ap (λ n. take (length xs) (drop n ys)) (sym a.long) ∙ ap (λ l. take (length xs) (drop (length a.before) l)) a.whole ∙ ap (take (length xs)) (drops a.before (xs ++ a.behind)) ∙ takes xs a.behind

-- what all have, they have
pub all_at : {X : Type 0} (P : X → Type 0) (ys : List X) (at : ℕ) (xs : List X) → At ys at xs → AllByRecursion P ys → AllByRecursion P xs
all_at P ys at xs a h = first xs a.behind (second a.before (xs ++ a.behind) (subst (AllByRecursion P) a.whole h))
  where
    first : (b c : List _) → AllByRecursion P (b ++ c) → AllByRecursion P b
    first [] c k = tt
    first (x ∷ b) c k = (k.0, first b c k.1)

    second : (b c : List _) → AllByRecursion P (b ++ c) → AllByRecursion P c
    second [] c k = k
    second (x ∷ b) c k = second b c k.1

-- they end within it
pub ends : {X : Type 0} (ys : List X) (at : ℕ) (xs : List X) → At ys at xs → at + length xs ≤ length ys
ends ys at xs a =
    let l = ap length a.whole ∙ length-append a.before (xs ++ a.behind) in
    let m = length-append xs a.behind in
    let n = a.long in
    omega arith
