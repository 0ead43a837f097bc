-- Two digits more of a line. Assumes nothing.
use Rattle.std.proofs.Common.{◌≡◌, ℕ, ◌-◌, ◌≤◌, List, [], ◌∷◌, ◌++◌, length, get_or, take, drop, Some, None, Option, refl, ap, ◌∙◌, append_assoc, arith}
use Rattle.std.specs.Option.{option_map}
use Rattle.std.proofs.lemmas.List.{take_all}
use Rattle.common.specs.Hex.{digit, pair, before, bytes_in}

joined : (front : List ℕ) (b : ℕ) (x : Option (List ℕ)) → option_map (λ bs. (front ++ b ∷ []) ++ bs) x ≡ option_map (λ bs. front ++ bs) (before (Some b) x)
joined front b None = refl
joined front b (Some bs) = ap Some (append_assoc front (b ∷ []) bs)

pub two_more : (rest front all : List ℕ) (b : ℕ) (whole : Option (List ℕ)) → 2 ≤ length rest → Some b ≡ pair (digit (get_or rest 0 0)) (digit (get_or rest 1 0))
    → option_map (λ bs. front ++ bs) (bytes_in rest) ≡ whole → all ≡ front ++ b ∷ []
    → option_map (λ bs. all ++ bs) (bytes_in (take (length rest - 2) (drop 2 rest))) ≡ whole
two_more [] front all b whole l e f g = absurd (omega arith)
two_more (h ∷ []) front all b whole l e f g = absurd (omega arith)
two_more (h ∷ k ∷ cs) front all b whole l e f g =
    ap (λ ys. option_map (λ bs. ys ++ bs) (bytes_in (take (length (h ∷ k ∷ cs) - 2) cs))) g
    ∙ ap (λ ys. option_map (λ bs. (front ++ b ∷ []) ++ bs) (bytes_in ys)) (take_all _ cs (omega arith))
    ∙ joined front b (bytes_in cs)
    ∙ ap (λ p. option_map (λ bs. front ++ bs) (before p (bytes_in cs))) e
    ∙ f
