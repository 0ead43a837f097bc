-- Equal names, and names that a prefix or a suffix is taken off. Assumes nothing.
use Rattle.std.proofs.Common.{◌≡◌, ℕ, ◌<◌, Bool, true, false, List, ◌++◌, length, get_or, Some, None, Option, Decides, MatchOption, Bor, ◌≢◌, sym, refl, ap, ◌∙◌}
use Rattle.std.specs.Str.{bytes_eq}
use Rattle.std.proofs.lemmas.Slice.Eq.{bytes_eq-Decides}
use Rattle.std.proofs.lemmas.List.{ext_get_or, append_cancel_left, append_cancel_right}
use Rattle.std.proofs.lemmas.Bool.Decides.{same_from_decides, Decides-at}
use Rattle.std.proofs.lemmas.Bool.{both_ways}

pub tells : (r : Bool) (xs ys : List ℕ) → Decides r (xs ≡ ys) → r ≡ bytes_eq xs ys
tells r xs ys h = same_from_decides r (bytes_eq xs ys) h (bytes_eq-Decides xs ys)

pub never : {P : Type 0} → (P → ⊥) → Decides false P
never h = (λ e. absurd (both_ways false refl e), λ p. absurd (h p))

pub always : {P : Type 0} → P → Decides true P
always p = (λ _. p, λ _. refl)

pub other_lengths : (xs ys : List ℕ) → (length xs ≡ length ys → ⊥) → false ≡ bytes_eq xs ys
other_lengths xs ys h = tells false xs ys (never (λ e. h (ap length e)))

pub other_bytes : (xs ys : List ℕ) (i : ℕ) → (get_or xs i 0 ≡ get_or ys i 0 → ⊥) → false ≡ bytes_eq xs ys
other_bytes xs ys i h = tells false xs ys (never (λ e. h (ap (λ l. get_or l i 0) e)))

pub all_bytes : (xs ys : List ℕ) → length xs ≡ length ys → ((i : ℕ) → i < length xs → get_or xs i 0 ≡ get_or ys i 0) → true ≡ bytes_eq xs ys
all_bytes xs ys e h = tells true xs ys (always (ext_get_or 0 xs ys e h))

-- whether a name is a prefix and a part is whether its rest is that part
pub behind : (r : Bool) (s p rest part : List ℕ) → s ≡ p ++ rest → r ≡ bytes_eq rest part → Decides r (s ≡ p ++ part)
behind r s p rest part e h =
    let d : Decides r (rest ≡ part) = Decides-at r (bytes_eq rest part) h (bytes_eq-Decides rest part) in (
      λ t. e ∙ ap (λ l. p ++ l) (d.0 t),
      λ q. d.1 (append_cancel_left p rest part (sym e ∙ q)),
    )

-- whether a name is a part and a suffix is whether there is a front before that suffix, and it is that part
pub before : (r : Bool) (s p part : List ℕ) (o : Option (Bor (List ℕ))) (told : Bor (List ℕ) → Type 0)
    → MatchOption o ((front : List ℕ) → s ≢ front ++ p) (λ x. s ≡ x.now ++ p)
    → ((x : Bor (List ℕ)) → told x → Decides r (x.now ≡ part))
    → MatchOption o (r ≡ false) told
    → Decides r (s ≡ part ++ p)
before r s p part None told m f h = (λ e. absurd (both_ways r h e), λ e. absurd (m part e))
before r s p part (Some x) told m f h = (
  λ t. m ∙ ap (λ l. l ++ p) ((f x h).0 t),
  λ q. (f x h).1 (append_cancel_right x.now part p (sym m ∙ q)),
)
