-- How an integer is given, by its halves. Assumes nothing.
use Rattle.std.proofs.Common.{◌≡◌, ℕ, zero, suc, ◌+◌, ◌-◌, ◌*◌, ◌^◌, ◌<◌, ◌≤◌, cond, ltb, ℤ, pos, negsuc, ◌+ℤ◌, neg_ℤ, ap, ◌∙◌, zero-add, arith}
use Rattle.std.proofs.lemmas.Bool.{lt-ltb, le-ltb}
use Rattle.tree.specs.declared.value.Integer.{Integer}
use Rattle.replies.specs.Replies.{signed, unsigned, wide, fitting, integer_reply}

abbrev pub halves : ℤ → ℕ → Integer
halves h l = record { high = h; low = l }

-- a number that is known, given as it fits
fits_signed : (n : ℕ) (i : Integer) → n < 2 ^ 63 → fitting (pos n) i ≡ signed (pos n)
fits_signed n i h = ap (λ b. cond b (signed (pos n)) (cond (ltb n (2 ^ 64)) (unsigned n) (wide i))) (lt-ltb n (2 ^ 63) h)

fits_unsigned : (n : ℕ) (i : Integer) → 2 ^ 63 ≤ n → n < 2 ^ 64 → fitting (pos n) i ≡ unsigned n
fits_unsigned n i h g =
    ap (λ b. cond b (signed (pos n)) (cond (ltb n (2 ^ 64)) (unsigned n) (wide i))) (le-ltb n (2 ^ 63) h)
    ∙ ap (λ b. cond b (unsigned n) (wide i)) (lt-ltb n (2 ^ 64) g)

fits_neither : (n : ℕ) (i : Integer) → 2 ^ 64 ≤ n → fitting (pos n) i ≡ wide i
fits_neither n i h =
    ap (λ b. cond b (signed (pos n)) (cond (ltb n (2 ^ 64)) (unsigned n) (wide i))) (le-ltb n (2 ^ 63) (omega arith))
    ∙ ap (λ b. cond b (unsigned n) (wide i)) (le-ltb n (2 ^ 64) h)

fits_below : (n : ℕ) (i : Integer) → n < 2 ^ 63 → fitting (negsuc n) i ≡ signed (negsuc n)
fits_below n i h = ap (λ b. cond b (signed (negsuc n)) (wide i)) (lt-ltb n (2 ^ 63) h)

too_low : (n : ℕ) (i : Integer) → 2 ^ 63 ≤ n → fitting (negsuc n) i ≡ wide i
too_low n i h = ap (λ b. cond b (signed (negsuc n)) (wide i)) (le-ltb n (2 ^ 63) h)

-- the high half 0
pub zero_small : (l : ℕ) → l < 2 ^ 63 → integer_reply (halves (pos 0) l) ≡ signed (pos l)
zero_small l h = ap (λ n. fitting (pos n) (halves (pos 0) l)) (zero-add l) ∙ fits_signed l (halves (pos 0) l) h

pub zero_large : (l : ℕ) → 2 ^ 63 ≤ l → l < 2 ^ 64 → integer_reply (halves (pos 0) l) ≡ unsigned l
zero_large l h g = ap (λ n. fitting (pos n) (halves (pos 0) l)) (zero-add l) ∙ fits_unsigned l (halves (pos 0) l) h g

-- a high half above 0
pub above_zero : (k l : ℕ) → 0 < k → integer_reply (halves (pos k) l) ≡ wide (halves (pos k) l)
above_zero k l h = fits_neither (k * 2 ^ 64 + l) (halves (pos k) l) (omega arith)

-- a low half less a multiple of 2 ^ 64
less : (m l : ℕ) → l < m → (neg_ℤ (pos m) +ℤ pos l) ≡ negsuc (m - suc l)
less zero l h = absurd (omega arith)
less (suc m) l h = ap (λ b. cond b (negsuc (suc m - suc l)) (pos (l - suc m))) (lt-ltb l (suc m) h)

-- the high half -1
pub minus_one_large : (l : ℕ) → 2 ^ 63 ≤ l → l < 2 ^ 64 → integer_reply (halves (negsuc 0) l) ≡ signed (negsuc (2 ^ 64 - suc l))
minus_one_large l h g = ap (λ z. fitting z (halves (negsuc 0) l)) (less (2 ^ 64) l g) ∙ fits_below (2 ^ 64 - suc l) (halves (negsuc 0) l) (omega arith)

pub minus_one_small : (l : ℕ) → l < 2 ^ 63 → integer_reply (halves (negsuc 0) l) ≡ wide (halves (negsuc 0) l)
minus_one_small l h = ap (λ z. fitting z (halves (negsuc 0) l)) (less (2 ^ 64) l (omega arith)) ∙ too_low (2 ^ 64 - suc l) (halves (negsuc 0) l) (omega arith)

-- a high half below -1
pub below_minus_one : (k l : ℕ) → 0 < k → l < 2 ^ 64 → integer_reply (halves (negsuc k) l) ≡ wide (halves (negsuc k) l)
below_minus_one k l h g =
    ap (λ z. fitting z (halves (negsuc k) l)) (less (suc k * 2 ^ 64) l (omega arith)) ∙ too_low (suc k * 2 ^ 64 - suc l) (halves (negsuc k) l) (omega arith)
