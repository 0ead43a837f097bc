-- What is found by its number where the numbers rise. Assumes nothing.
use Rattle.std.proofs.Common.{◌≡◌, ℕ, zero, suc, ◌<◌, Bool, true, false, cond, eqb, ◌⊎◌, List, [], ◌∷◌, ◌++◌, map, length, get_or, Some, None, Option, sym, refl, ap, ◌∙◌, inl, inr, ⊎_elim, arith}
use Rattle.std.proofs.lemmas.Bool.{eq-eqb, ne_eqb, eqb-true}
use Rattle.tree.specs.Numbers.{Rising}

pub none_some : {X Y : Type 0} (x : X) → ◌≡◌ {A = Option X} None (Some x) → Y
none_some x e = absurd (let z : ◌≡◌ {A = ℕ} 0 1 = cc in omega arith)

pub nil_cons : {X Y : Type 0} (x : X) (xs : List X) → ◌≡◌ {A = List X} [] (x ∷ xs) → Y
nil_cons x xs e = absurd (let z : ◌≡◌ {A = ℕ} 0 1 = cc in omega arith)

module _ {X : Type 0} where
  abbrev pub Among : X → List X → Type 0
  Among s [] = ⊥
  Among s (t ∷ ts) = (s ≡ t) ⊎ Among s ts

  pub among_left : (s : X) (xs ys : List X) → Among s xs → Among s (xs ++ ys)
  among_left s [] ys h = absurd h
  among_left s (x ∷ xs) ys (inl e) = inl e
  among_left s (x ∷ xs) ys (inr h) = inr (among_left s xs ys h)

  pub among_right : (s : X) (xs ys : List X) → Among s ys → Among s (xs ++ ys)
  among_right s [] ys h = h
  among_right s (x ∷ xs) ys h = inr (among_right s xs ys h)

  pub among_split : (s : X) (xs ys : List X) → Among s (xs ++ ys) → Among s xs ⊎ Among s ys
  among_split s [] ys h = inr h
  among_split s (x ∷ xs) ys (inl e) = inl (inl e)
  among_split s (x ∷ xs) ys (inr h) = ⊎_elim (λ l. inl (inr l)) inr (among_split s xs ys h)

  -- what f leads to from one of xs is one of ys
  abbrev pub Leads : (X → Option X) → List X → List X → Type 0
  Leads f xs ys = (s t : X) → Among s xs → f s ≡ Some t → Among t ys

  pub leads_more : (f : X → Option X) (x : X) (xs ys : List X) → ((t : X) → f x ≡ Some t → Among t (xs ++ ys)) → Leads f xs xs → Leads f ys ys → Leads f (x ∷ (xs ++ ys)) (x ∷ (xs ++ ys))
  leads_more f x xs ys here left right s t (inl e) is = inr (here t (ap f (sym e) ∙ is))
  leads_more f x xs ys here left right s t (inr h) is =
      ⊎_elim (λ l. inr (among_left t xs ys (left s t l is))) (λ r. inr (among_right t xs ys (right s t r is))) (among_split s xs ys h)

-- a search by number
module _ {X : Type 0} (key : X → ℕ) (find : List X → ℕ → Option X) (stops : (n : ℕ) → find [] n ≡ None) (goes : (x : X) (xs : List X) (n : ℕ) → find (x ∷ xs) n ≡ cond (eqb (key x) n) (Some x) (find xs n)) where
  tail : (x : X) (xs : List X) → Rising (map key (x ∷ xs)) → Rising (map key xs)
  tail x xs r i j h l = r (suc i) (suc j) (omega arith) (omega arith)

  reads : (xs : List X) (s : X) → Among s xs → (j : ℕ) × (j < length (map key xs)) × (get_or (map key xs) j 0 ≡ key s)
  reads [] s h = absurd h
  reads (x ∷ xs) s (inl e) = (zero, omega arith, ap key (sym e))
  reads (x ∷ xs) s (inr h) = let k = reads xs s h in let l = k.1 in (suc k.0, omega arith, k.2)

  above : (x : X) (xs : List X) (s : X) → Rising (map key (x ∷ xs)) → Among s xs → key x < key s
  above x xs s r h = let k = reads xs s h in let l = k.1 in let e = k.2 in let g = r 0 (suc k.0) (omega arith) (omega arith) in omega arith

  pub find_among : (xs : List X) → Rising (map key xs) → (s : X) → Among s xs → find xs (key s) ≡ Some s
  find_among [] r s h = absurd h
  find_among (x ∷ xs) r s (inl e) = goes x xs (key s) ∙ ap (λ b. cond b (Some x) (find xs (key s))) (eq-eqb (key x) (key s) (ap key (sym e))) ∙ ap Some (sym e)
  find_among (x ∷ xs) r s (inr h) =
      let less = above x xs s r h in
      goes x xs (key s) ∙ ap (λ b. cond b (Some x) (find xs (key s))) (ne_eqb (key x) (key s) (λ e. omega arith)) ∙ find_among xs (tail x xs r) s h

  pub find_sound : (xs : List X) (n : ℕ) (s : X) → find xs n ≡ Some s → Among s xs × (key s ≡ n)
  find_sound [] n s e = none_some s (sym (stops n) ∙ e)
  find_sound (x ∷ xs) n s e = go (eqb (key x) n) refl (find_sound xs n s) (sym (goes x xs n) ∙ e)
    where
      go : (b : Bool) → eqb (key x) n ≡ b → (find xs n ≡ Some s → Among s xs × (key s ≡ n)) → cond b (Some x) (find xs n) ≡ Some s → Among s (x ∷ xs) × (key s ≡ n)
      go true q more is =
          let same : s ≡ x = cc in
          (inl same, ap key same ∙ eqb-true (key x) n q)
      go false q more is = let r = more is in (inr r.0, r.1)
