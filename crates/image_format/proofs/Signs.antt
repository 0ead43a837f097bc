-- The signed reading of 64 bits and its inverse. Assumes nothing.
use Rattle.std.proofs.Common.{◌≡◌, ℕ, suc, ◌-◌, ◌^◌, ◌<◌, ltb, ℤ, pos, negsuc, sym, ap, ◌∙◌, subst, ⊎_elim, arith}
use Rattle.std.proofs.lemmas.Bool.{cases_lt, lt-ltb, le-ltb, cond-true, cond-false}
use Rattle.tree.specs.Numbers.{Signed}
use Rattle.image_format.specs.Signed.{signed, unsigned}

pub unsigned_signed : (n : ℕ) → n < 2 ^ 64 → unsigned (signed n) ≡ n
unsigned_signed n l = ⊎_elim
    (λ lt. ap unsigned (cond-true (ltb n (2 ^ 63)) (pos n) (negsuc (2 ^ 64 - suc n)) (lt-ltb n (2 ^ 63) lt)))
    (λ ge. ap unsigned (cond-false (ltb n (2 ^ 63)) (pos n) (negsuc (2 ^ 64 - suc n)) (le-ltb n (2 ^ 63) ge)) ∙ omega arith)
    (cases_lt n (2 ^ 63))

pub signed_unsigned : (z : ℤ) → Signed z → signed (unsigned z) ≡ z
signed_unsigned (pos n) l = cond-true (ltb n (2 ^ 63)) (pos n) _ (lt-ltb n (2 ^ 63) l)
signed_unsigned (negsuc n) l =
    let m = 2 ^ 64 - suc n in
    let e : 2 ^ 64 - suc m ≡ n = omega arith in
    cond-false (ltb m (2 ^ 63)) (pos m) (negsuc (2 ^ 64 - suc m)) (le-ltb m (2 ^ 63) (omega arith)) ∙ ap negsuc e

pub signed_fits : (n : ℕ) → n < 2 ^ 64 → Signed (signed n)
signed_fits n l = ⊎_elim
    (λ lt. subst Signed (sym (cond-true (ltb n (2 ^ 63)) (pos n) (negsuc (2 ^ 64 - suc n)) (lt-ltb n (2 ^ 63) lt))) lt)
    (λ ge. subst Signed (sym (cond-false (ltb n (2 ^ 63)) (pos n) (negsuc (2 ^ 64 - suc n)) (le-ltb n (2 ^ 63) ge))) (omega arith))
    (cases_lt n (2 ^ 63))

pub unsigned_lt : (z : ℤ) → Signed z → unsigned z < 2 ^ 64
unsigned_lt (pos n) l = omega arith
unsigned_lt (negsuc n) l = omega arith
