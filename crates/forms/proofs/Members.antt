-- Names by position, and the form from a position on. Assumes nothing.
use Rattle.std.proofs.Common.{◌≡◌, ℕ, zero, suc, ◌+◌, ◌<◌, ◌≤◌, true, false, cond, ◌||◌, List, [], ◌∷◌, map, length, get_or, drop, drop_of_length-le, position, Some, None, sym, refl, ap, ◌∙◌, add-one, arith}
use Rattle.std.specs.List.{AllByRecursion, position_from as passing}
use Rattle.std.proofs.lemmas.Iterator.Adapters.{position_from-zero}
use Rattle.std.specs.Str.{bytes_eq}
-- a position where something stands is below the length
pub use Rattle.std.proofs.lemmas.Option.{slice_get_within as nth_below}
use Rattle.forms.specs.Forms.{Form, nth, has, position_from, position_of, form_of, FormFits, Lawful}

module _ {X : Type 0} where
  pub nth_some : (xs : List X) (i : ℕ) (x : X) → nth xs i ≡ Some x → drop i xs ≡ x ∷ drop (i + 1) xs
  nth_some [] i x e = let z : ◌≡◌ {A = ℕ} 0 1 = cc in absurd (omega arith)
  nth_some (y ∷ ys) zero x e = cc
  nth_some (y ∷ ys) (suc i) x e = rw add-one (rw add-one at (nth_some ys i x e))

  pub nth_none : (xs : List X) (i : ℕ) → nth xs i ≡ None → drop i xs ≡ []
  nth_none [] zero e = refl
  nth_none [] (suc i) e = refl
  nth_none (y ∷ ys) zero e = let z : ◌≡◌ {A = ℕ} 0 1 = cc in absurd (omega arith)
  nth_none (y ∷ ys) (suc i) e = nth_none ys i e

module _ {X Y : Type 0} (f : X → Y) where
  pub nth_map : (d : X) (xs : List X) (i : ℕ) → i < length xs → nth (map f xs) i ≡ Some (f (get_or xs i d))
  nth_map d [] i h = absurd (omega arith)
  nth_map d (x ∷ xs) zero h = refl
  nth_map d (x ∷ xs) (suc i) h = nth_map d xs i (omega arith)

  pub nth_map_past : (xs : List X) (i : ℕ) → length xs ≤ i → nth (map f xs) i ≡ None
  nth_map_past [] i h = refl
  nth_map_past (x ∷ xs) zero h = absurd (omega arith)
  nth_map_past (x ∷ xs) (suc i) h = nth_map_past xs i (omega arith)

all_fit : (fs : List Form) (i : ℕ) → AllByRecursion FormFits fs → length (form_of fs i) ≤ 65535
all_fit [] i h = omega arith
all_fit (f ∷ fs) zero h = h.0.few
all_fit (f ∷ fs) (suc i) h = all_fit fs i h.1

pub form_few : (fs : List Form) (i : ℕ) → Lawful fs → length (form_of fs i) ≤ 65535
form_few fs i l = all_fit fs i l.forms

-- whether the form has a name is whether it has it from a position on, where the names before are others
pub has_found : (f : Form) (m x : List ℕ) (i : ℕ) → has (drop i f) m ≡ has f m → nth f i ≡ Some x → true ≡ bytes_eq x m → true ≡ has f m
has_found f m x i so e t = ap (λ b. b || has (drop (i + 1) f) m) t ∙ sym (ap (λ l. has l m) (nth_some f i x e)) ∙ so

pub has_more : (f : Form) (m x : List ℕ) (i : ℕ) → has (drop i f) m ≡ has f m → nth f i ≡ Some x → false ≡ bytes_eq x m → has (drop (i + 1) f) m ≡ has f m
has_more f m x i so e t = ap (λ b. b || has (drop (i + 1) f) m) t ∙ sym (ap (λ l. has l m) (nth_some f i x e)) ∙ so

pub has_none : (f : Form) (m : List ℕ) (i : ℕ) → has (drop i f) m ≡ has f m → nth f i ≡ None → false ≡ has f m
has_none f m i so e = sym (ap (λ l. has l m) (nth_none f i e)) ∙ so

-- the name that a set answers stands at that position, of which there are few
pub position_below : (fs : List Form) (i j : ℕ) (x : List ℕ) → Lawful fs → nth (form_of fs i) j ≡ Some x → j < 65535
position_below fs i j x l e = let h = nth_below (form_of fs i) j x e in let few = form_few fs i l in omega arith

-- nothing stands past the last position
pub has_over : (fs : List Form) (i : ℕ) (m : List ℕ) (j : ℕ) → Lawful fs → has (drop j (form_of fs i)) m ≡ has (form_of fs i) m → 65535 ≤ j → false ≡ has (form_of fs i) m
has_over fs i m j l so h = ap (λ k. has k m) (sym (drop_of_length-le (form_of fs i) (omega (arith, form_few fs i l)))) ∙ so

-- the first position, from a position on
pub position_found : (f : Form) (m x : List ℕ) (i : ℕ) → position_from i (drop i f) m ≡ position_from 0 f m → nth f i ≡ Some x → true ≡ bytes_eq x m → Some i ≡ position_from 0 f m
position_found f m x i so e t = ap (λ b. cond b (Some i) (position_from (suc i) (drop (i + 1) f) m)) t ∙ sym (ap (λ l. position_from i l m) (nth_some f i x e)) ∙ so

pub position_more : (f : Form) (m x : List ℕ) (i : ℕ) → position_from i (drop i f) m ≡ position_from 0 f m → nth f i ≡ Some x → false ≡ bytes_eq x m → position_from (i + 1) (drop (i + 1) f) m ≡ position_from 0 f m
position_more f m x i so e t =
    ap (λ j. position_from j (drop (i + 1) f) m) (add-one i)
    ∙ ap (λ b. cond b (Some i) (position_from (suc i) (drop (i + 1) f) m)) t
    ∙ sym (ap (λ l. position_from i l m) (nth_some f i x e)) ∙ so

pub position_none : (f : Form) (m : List ℕ) (i : ℕ) → position_from i (drop i f) m ≡ position_from 0 f m → nth f i ≡ None → None ≡ position_from 0 f m
position_none f m i so e = sym (ap (λ l. position_from i l m) (nth_none f i e)) ∙ so

-- the first position of a name is that of the first name that equals it
position_same : {X : Type 0} (f : X → List ℕ) (m : List ℕ) (i : ℕ) (xs : List X) → position_from i (map f xs) m ≡ passing (λ x. bytes_eq (f x) m) i xs
position_same f m i [] = refl
position_same f m i (x ∷ xs) = ap (λ o. cond (bytes_eq (f x) m) (Some i) o) (position_same f m (suc i) xs ∙ ap (λ j. passing (λ y. bytes_eq (f y) m) j xs) (sym (add-one i)))

pub position_told : {X : Type 0} (f : X → List ℕ) (form : Form) (m : List ℕ) (xs : List X) → map f xs ≡ form → position (λ x. bytes_eq (f x) m) xs ≡ position_of form m
position_told f form m xs e = position_from-zero (λ x. bytes_eq (f x) m) xs ∙ sym (position_same f m 0 xs) ∙ ap (λ l. position_of l m) e
