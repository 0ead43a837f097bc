-- Writing numbers and reading them are one another's inverse. Assumes nothing.
use Rattle.std.proofs.Common.{◌≡◌, ℕ, zero, suc, ◌+◌, ◌*◌, ◌/◌, ◌%◌, ◌^◌, ◌<◌, ◌≤◌, Bool, true, false, ◌&&◌, ltb, List, [], ◌∷◌, ◌++◌, length, get_or, take, sym, refl, ap, ◌∙◌, arith, length-take-le, Fits, w8}
use native.Mathlib.Nat.{pow-succ'}
use Rattle.std.proofs.ByRecursion.{All-take, All-from_get_or}
use Rattle.std.proofs.lemmas.Bool.{lt-ltb, ltb-true, false≢true}
use Rattle.records.specs.Numbers.{Bytes, number, low, are_bytes}

pub low_number : (xs : List ℕ) → Bytes xs → low (length xs) (number xs) ≡ xs
low_number [] b = refl
low_number (x ∷ xs) b =
    let m : (x + 256 * number xs) % 256 ≡ x = omega (arith, b.0) in
    let d : (x + 256 * number xs) / 256 ≡ number xs = omega (arith, b.0) in
    rw (m, d, low_number xs b.1)

pub low_all : (n : ℕ) (xs : List ℕ) → length xs ≡ n → Bytes xs → low n (number xs) ≡ xs
low_all n xs l b = ap (λ m. low m (number xs)) (sym l) ∙ low_number xs b

pub low_take : (n : ℕ) (xs : List ℕ) → n ≤ length xs → Bytes xs → low n (number (take n xs)) ≡ take n xs
low_take n xs h b = low_all n (take n xs) (length-take-le n xs h) (All-take (λ x. x < 256) n xs b)

pub number_lt : (n : ℕ) (xs : List ℕ) → length xs ≡ n → Bytes xs → number xs < 256 ^ n
number_lt zero [] l b = omega arith
number_lt zero (x ∷ xs) l b = absurd (omega arith)
number_lt (suc n) [] l b = absurd (omega arith)
number_lt (suc n) (x ∷ xs) l b =
    let h = number_lt n xs (omega arith) b.1 in
    let w = b.0 in
    rw pow-succ' (omega arith)

pub number_low : (n x : ℕ) → x < 256 ^ n → number (low n x) ≡ x
number_low zero x l = omega arith
number_low (suc n) x l =
    let big = rw pow-succ' at l in
    let h = number_low n (x / 256) (omega arith) in
    omega arith

pub low_length : (n x : ℕ) → length (low n x) ≡ n
low_length zero x = refl
low_length (suc n) x = ap suc (low_length n (x / 256))

pub low_bytes : (n x : ℕ) → Bytes (low n x)
low_bytes zero x = tt
low_bytes (suc n) x = (omega arith, low_bytes n (x / 256))

pub bytes_right : (xs ys : List ℕ) → Bytes (xs ++ ys) → Bytes ys
bytes_right [] ys b = b
bytes_right (x ∷ xs) ys b = bytes_right xs ys b.1

pub bytes_left : (xs ys : List ℕ) → Bytes (xs ++ ys) → Bytes xs
bytes_left [] ys b = tt
bytes_left (x ∷ xs) ys b = (b.0, bytes_left xs ys b.1)

pub bytes_are : (xs : List ℕ) → Bytes xs → are_bytes xs ≡ true
bytes_are [] b = refl
bytes_are (x ∷ xs) b = ap (λ c. c && are_bytes xs) (lt-ltb x 256 b.0) ∙ bytes_are xs b.1

pub bytes_from_are : (xs : List ℕ) → are_bytes xs ≡ true → Bytes xs
bytes_from_are [] e = tt
bytes_from_are (x ∷ xs) e = go (ltb x 256) refl (bytes_from_are xs) e
  where
    go : (c : Bool) → ltb x 256 ≡ c → (are_bytes xs ≡ true → Bytes xs) → c && are_bytes xs ≡ true → Bytes (x ∷ xs)
    go true h more k = (ltb-true x 256 h, more k)
    go false h more k = absurd (false≢true k)

-- bytes, where each number that is read from them is one
pub bytes_from : (bs : List ℕ) → ((k : ℕ) → Fits w8 (get_or bs k 0)) → Bytes bs
bytes_from bs h = All-from_get_or (λ x. x < 256) bs 0 (λ k l. (h k).fits)
