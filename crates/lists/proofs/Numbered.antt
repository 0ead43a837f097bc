-- Arguments by their numbers, and omissions by their positions. Assumes nothing.
use Rattle.std.proofs.Common.{◌≡◌, ℕ, zero, suc, ◌+◌, ◌<◌, Bool, true, false, cond, not, ◌&&◌, eqb, List, [], ◌∷◌, ◌++◌, Some, None, Option, sym, refl, ap, ◌∙◌, ap₂, append-nil, arith}
use Rattle.std.proofs.lemmas.Bool.{ne_eqb, eq-eqb, eqb-true}
use Rattle.std.specs.Str.{bytes_eq}
use Rattle.tree.specs.Document.{Ident, Entry, Node, Argument, head_in, arguments, arguments_from, argument_then, number_after}
use Rattle.forms.specs.Forms.{Form, nth, has}
use Rattle.forms.specs.Keys.{argument, omitted, spelled}
use Rattle.lists.specs.Each.{when}
use Rattle.lists.specs.Places.{Place, omission}
use Rattle.lists.specs.Lists.{item, unasked, unmet, omission_items}
use Rattle.lists.specs.Placement.{under, of_number}
use Rattle.lists.proofs.Names.{none_some, equal, itself}
use Rattle.lists.proofs.Parts.{under_++, under_when}

-- the numbers go up from s
abbrev Rising : ℕ → List Argument → Type 0
Rising s [] = Unit {0}
Rising s (a ∷ as') = (a.number ≡ s) × Rising (suc s) as'

rising : (s : ℕ) (es : List Entry) → Rising s (arguments_from s es)
rising s [] = tt
rising s (e ∷ es) = go e.name (rising (number_after e.name s) es)
  where
    go : (o : Option Ident) → Rising (number_after o s) (arguments_from (number_after o s) es) → Rising s (argument_then o s e (arguments_from (number_after o s) es))
    go None h = (refl, h)
    go (Some t) h = h

other : (a : Argument) (j : ℕ) (as' : List Argument) → (a.number ≡ j → ⊥) → of_number j (a ∷ as') ≡ of_number j as'
other a j as' d = ap (λ b. cond b (a ∷ of_number j as') (of_number j as')) (ne_eqb a.number j d)

-- past j there is none of the number j
after : (s j : ℕ) (as' : List Argument) → j < s → Rising s as' → of_number j as' ≡ []
after s j [] h r = refl
after s j (a ∷ as') h r = let d : a.number ≡ j → ⊥ = λ e. omega (arith, r.0) in other a j as' d ∙ after (suc s) j as' (omega arith) r.1

one : (s i j : ℕ) (as' : List Argument) (a : Argument) → j ≡ s + i → Rising s as' → nth as' i ≡ Some a → (of_number j as' ≡ a ∷ []) × (a.number ≡ j)
one s i j [] a e r h = absurd (none_some h)
one s zero j (b ∷ as') a e r h =
    let same : b ≡ a = cc in
    let own : b.number ≡ j = omega (arith, r.0) in (
      ap (λ t. cond t (b ∷ of_number j as') (of_number j as')) (eq-eqb b.number j own) ∙ ap₂ (λ x l. x ∷ l) same (after (suc s) j as' (omega arith) r.1),
      ap (λ x. x.number) (sym same) ∙ own,
    )
one s (suc i) j (b ∷ as') a e r h =
    let d : b.number ≡ j → ⊥ = λ q. omega (arith, r.0) in
    let later = one (suc s) i j as' a (omega arith) r.1 h in
    (other b j as' d ∙ later.0, later.1)

pub the_one : (n : Node) (i : ℕ) (a : Argument) → nth (arguments n) i ≡ Some a → (of_number i (arguments n) ≡ a ∷ []) × (a.number ≡ i)
the_one n i a h = one 0 i i (arguments n) a (omega arith) (rising 0 (head_in n).entries) h

no_one : (s i j : ℕ) (as' : List Argument) → j ≡ s + i → Rising s as' → nth as' i ≡ None → of_number j as' ≡ []
no_one s i j [] e r h = refl
no_one s zero j (b ∷ as') e r h = absurd (none_some (sym h))
no_one s (suc i) j (b ∷ as') e r h = let d : b.number ≡ j → ⊥ = λ q. omega (arith, r.0) in other b j as' d ∙ no_one (suc s) i j as' (omega arith) r.1 h

pub none_such : (n : Node) (i : ℕ) → nth (arguments n) i ≡ None → of_number i (arguments n) ≡ []
none_such n i h = no_one 0 i i (arguments n) (omega arith) (rising 0 (head_in n).entries) h

-- those of a number that the form has not
pub unasked_numbers : (f : Form) (j : ℕ) (as' : List Argument) → of_number j (unasked f as') ≡ cond (has f (spelled (argument j))) [] (of_number j as')
unasked_numbers f j [] = go (has f (spelled (argument j)))
  where
    go : (t : Bool) → [] ≡ cond {A = List Argument} t [] []
    go true = refl
    go false = refl
unasked_numbers f j (a ∷ as') = go (has f (spelled (argument a.number))) (eqb a.number j) refl refl (unasked_numbers f j as')
  where
    asks : Bool
    asks = has f (spelled (argument j))

    go : (b t : Bool) → has f (spelled (argument a.number)) ≡ b → eqb a.number j ≡ t → of_number j (unasked f as') ≡ cond asks [] (of_number j as')
        → of_number j (cond (not b) (a ∷ unasked f as') (unasked f as')) ≡ cond asks [] (cond t (a ∷ of_number j as') (of_number j as'))
    go true true eb et ih =
        let h : asks ≡ true = ap (λ i. has f (spelled (argument i))) (sym (eqb-true a.number j et)) ∙ eb in
        ih ∙ ap (λ x. cond x [] (of_number j as')) h ∙ sym (ap (λ x. cond x [] (a ∷ of_number j as')) h)
    go true false eb et ih = ih
    go false true eb et ih =
        let h : asks ≡ false = ap (λ i. has f (spelled (argument i))) (sym (eqb-true a.number j et)) ∙ eb in
        ap (λ x. cond x (a ∷ of_number j (unasked f as')) (of_number j (unasked f as'))) et ∙ ap (λ l. a ∷ l) (ih ∙ ap (λ x. cond x [] (of_number j as')) h) ∙ sym (ap (λ x. cond x [] (a ∷ of_number j as')) h)
    go false false eb et ih = ap (λ x. cond x (a ∷ of_number j (unasked f as')) (of_number j (unasked f as'))) et ∙ ih

module _ (n : Node) (m : List ℕ) where
  -- what a position with the name x has under the name m
  abbrev at_name : Option (List ℕ) → List Place
  at_name None = []
  at_name (Some x) = cond (bytes_eq x m) (when (unmet n x) omission) []

  -- the first position's part
  first_part : (s j : ℕ) (x : List ℕ) (ms : Form) (t : Bool) → eqb s j ≡ t
      → under (omitted j m) (omission_items n s (x ∷ ms)) ≡ cond (t && bytes_eq x m) (when (unmet n x) omission) [] ++ under (omitted j m) (omission_items n (suc s) ms)
  first_part s j x ms t e =
      under_++ (omitted j m) (when (unmet n x) (item (omitted s x) omission)) (omission_items n (suc s) ms)
      ∙ ap (λ l. l ++ under (omitted j m) (omission_items n (suc s) ms)) (under_when (omitted j m) (omitted s x) (t && bytes_eq x m) (ap (λ b. b && bytes_eq x m) e) (unmet n x) omission)

  past_it : (s j : ℕ) (f : Form) → j < s → under (omitted j m) (omission_items n s f) ≡ []
  past_it s j [] h = refl
  past_it s j (x ∷ ms) h = first_part s j x ms false (ne_eqb s j (λ e. omega arith)) ∙ past_it (suc s) j ms (omega arith)

  omits_at : (s i j : ℕ) (f : Form) → j ≡ s + i → under (omitted j m) (omission_items n s f) ≡ at_name (nth f i)
  omits_at s i j [] e = refl
  omits_at s zero j (x ∷ ms) e =
      first_part s j x ms true (eq-eqb s j (omega arith)) ∙ ap (λ l. at_name (Some x) ++ l) (past_it (suc s) j ms (omega arith)) ∙ append-nil (at_name (Some x))
  omits_at s (suc i) j (x ∷ ms) e = first_part s j x ms false (ne_eqb s j (λ q. omega arith)) ∙ omits_at (suc s) i j ms (omega arith)

  pub omits : (f : Form) (i : ℕ) → nth f i ≡ Some m → under (omitted i m) (omission_items n 0 f) ≡ when (unmet n m) omission
  omits f i h = omits_at 0 i i f (omega arith) ∙ ap at_name h ∙ ap (λ b. cond b (when (unmet n m) omission) []) (itself m)

  pub omits_none : (f : Form) (i : ℕ) → (nth f i ≡ Some m → ⊥) → under (omitted i m) (omission_items n 0 f) ≡ []
  omits_none f i h = omits_at 0 i i f (omega arith) ∙ go (nth f i) h
    where
      named : (x : List ℕ) (b : Bool) → bytes_eq x m ≡ b → (◌≡◌ {A = Option (List ℕ)} (Some x) (Some m) → ⊥) → cond b (when (unmet n x) omission) [] ≡ []
      named x true e g = absurd (g (ap Some (equal x m e)))
      named x false e g = refl

      go : (o : Option (List ℕ)) → (o ≡ Some m → ⊥) → at_name o ≡ []
      go None g = refl
      go (Some x) g = named x (bytes_eq x m) refl g
