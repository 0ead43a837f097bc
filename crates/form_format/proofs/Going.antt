-- Elements that are read one after another come to all that fill a place. Assumes nothing.
use Rattle.std.proofs.Common.{◌≡◌, ℕ, zero, suc, ◌+◌, ◌<◌, ◌≤◌, true, false, cond, eqb, List, [], ◌∷◌, ◌++◌, length, Ok, Err, sym, refl, ap, ◌∙◌, append_assoc, append-nil, add-one, arith}
use Rattle.tree.specs.Outcome.{and_then}
use Rattle.records.specs.Records.{none}
use Rattle.records.specs.Places.{Place, Read}
use Rattle.records.specs.declared.fault.RecordFault.{RecordFault}
use Rattle.records.proofs.Cutting.{none_length}
use Rattle.records.proofs.Parts.{place}
use Rattle.form_format.specs.Reading.{filled}

module _ {X : Type 0} (one : ℕ → Place → Read (X × Place)) where
  -- what is behind an element is shorter
  abbrev pub Shrinks : Type 0
  Shrinks = (n : ℕ) (p : Place) (x : X) (q : Place) → one n p ≡ Ok (x, q) → length q.bytes < length p.bytes

  -- the elements xs, and then those that fill p, come to t, whatever bound is high enough
  abbrev pub Going : Read (List X) → List X → ℕ → Place → Type 0
  Going t xs n p = (g : ℕ) → length p.bytes ≤ g → and_then (filled one g n p) (λ ys. Ok (xs ++ ys)) ≡ t

  -- one more element, where it does not matter by which bound the rest is read
  one_more : (g h n : ℕ) (o : Read (X × Place)) → ((x : X) (q : Place) → o ≡ Ok (x, q) → filled one g (suc n) q ≡ filled one h (suc n) q)
      → and_then o (λ x. and_then (filled one g (suc n) x.1) (λ xs. Ok (x.0 ∷ xs))) ≡ and_then o (λ x. and_then (filled one h (suc n) x.1) (λ xs. Ok (x.0 ∷ xs)))
  one_more g h n (Err e) same = refl
  one_more g h n (Ok x) same = ap (λ r. and_then r (λ xs. Ok (x.0 ∷ xs))) (same x.0 x.1 refl)

  -- a bound that is high enough changes nothing
  pub enough : Shrinks → (g h n at : ℕ) (bs : List ℕ) → length bs ≤ g → length bs ≤ h → filled one g n (place at bs) ≡ filled one h n (place at bs)
  unfolding filled
  enough s zero zero n at bs l m = refl
  enough s zero (suc h) n at [] l m = refl
  enough s zero (suc h) n at (b ∷ bs) l m = absurd (omega arith)
  enough s (suc g) zero n at [] l m = refl
  enough s (suc g) zero n at (b ∷ bs) l m = absurd (omega arith)
  enough s (suc g) (suc h) n at [] l m = refl
  enough s (suc g) (suc h) n at (b ∷ bs) l m =
      one_more g h n (one n (place at (b ∷ bs))) (λ x q is.
      let less = s n (place at (b ∷ bs)) x q is in
      enough s g h (suc n) q.at q.bytes (omega arith) (omega arith))

  same_result : (r : Read (List X)) → and_then r (λ ys. Ok ([] ++ ys)) ≡ r
  same_result (Ok ys) = refl
  same_result (Err e) = refl

  pub going_start : Shrinks → (p : Place) → Going (filled one (length p.bytes) 0 p) [] 0 p
  going_start s p g l = same_result (filled one g 0 p) ∙ enough s g (length p.bytes) 0 p.at p.bytes l (omega arith)

  some_left : (bs : List ℕ) → false ≡ eqb (length bs) 0 → none bs ≡ false
  some_left bs e = none_length bs ∙ sym e

  none_left : (bs : List ℕ) → true ≡ eqb (length bs) 0 → none bs ≡ true
  none_left bs e = none_length bs ∙ sym e

  joined : (r : Read (List X)) (xs : List X) (x : X) → and_then (and_then r (λ ys. Ok (x ∷ ys))) (λ ys. Ok (xs ++ ys)) ≡ and_then r (λ ys. Ok ((xs ++ x ∷ []) ++ ys))
  joined (Ok ys) xs x = ap Ok (sym (append_assoc xs (x ∷ []) ys))
  joined (Err e) xs x = refl

  module _ (t : Read (List X)) (xs : List X) (n : ℕ) (p : Place) (going : Going t xs n p) where
    pub going_more : Shrinks → (x : X) (q : Place) → false ≡ eqb (length p.bytes) 0 → one n p ≡ Ok (x, q) → Going t (xs ++ x ∷ []) (n + 1) q
    unfolding filled
    going_more s x q isnt is g l =
        let less = s n p x q is in
        let h = length p.bytes in
        let e = going (suc h) (omega arith) in
        ap (λ k. and_then (filled one g k q) (λ ys. Ok ((xs ++ x ∷ []) ++ ys))) (add-one n)
        ∙ ap (λ r. and_then r (λ ys. Ok ((xs ++ x ∷ []) ++ ys))) (enough s g h (suc n) q.at q.bytes l (omega arith))
        ∙ sym (joined (filled one h (suc n) q) xs x)
        ∙ sym (ap (λ b. and_then (cond b (Ok []) (and_then (one n p) (λ y. and_then (filled one h (suc n) y.1) (λ ys. Ok (y.0 ∷ ys))))) (λ ys. Ok (xs ++ ys))) (some_left p.bytes isnt)
        ∙ ap (λ o. and_then (and_then o (λ y. and_then (filled one h (suc n) y.1) (λ ys. Ok (y.0 ∷ ys)))) (λ ys. Ok (xs ++ ys))) is)
        ∙ e

    pub going_fault : (e : RecordFault) → false ≡ eqb (length p.bytes) 0 → one n p ≡ Err e → Err e ≡ t
    unfolding filled
    going_fault e isnt is =
        let h = length p.bytes in
        sym (ap (λ b. and_then (cond b (Ok []) (and_then (one n p) (λ y. and_then (filled one h (suc n) y.1) (λ ys. Ok (y.0 ∷ ys))))) (λ ys. Ok (xs ++ ys))) (some_left p.bytes isnt)
        ∙ ap (λ o. and_then (and_then o (λ y. and_then (filled one h (suc n) y.1) (λ ys. Ok (y.0 ∷ ys)))) (λ ys. Ok (xs ++ ys))) is)
        ∙ going (suc h) (omega arith)

    pub going_end : true ≡ eqb (length p.bytes) 0 → Ok xs ≡ t
    unfolding filled
    going_end isnt =
        let h = length p.bytes in
        ap Ok (sym (append-nil xs))
        ∙ sym (ap (λ b. and_then (cond b (Ok []) (and_then (one n p) (λ y. and_then (filled one h (suc n) y.1) (λ ys. Ok (y.0 ∷ ys))))) (λ ys. Ok (xs ++ ys))) (none_left p.bytes isnt))
        ∙ going (suc h) (omega arith)
