-- What is found of a document. Assumes nothing.
use Rattle.std.proofs.Common.{◌≡◌, ℕ, Bool, true, false, cond, eqb, List, [], ◌∷◌, Some, None, Option, sym, refl, subst, arith, IfNone, IsSome}
use Rattle.std.specs.List.{AllByRecursion}
use Rattle.std.specs.Option.{option_map}
use Rattle.std.proofs.lemmas.Bool.{eqb-true}
use Rattle.tree.specs.Document.{handle_in}
use Rattle.tree.specs.Going.{Spot, EntrySpot, find_spot, find_entry}

pub none_some : {X Y : Type 0} (x : X) → ◌≡◌ {A = Option X} None (Some x) → Y
none_some x e = absurd (let z : ◌≡◌ {A = ℕ} 0 1 = cc in omega arith)

-- what is found is among what is searched, and has the number
pub spot_found : (P : Spot → Type 0) (ss : List Spot) (n : ℕ) (s : Spot) → AllByRecursion P ss → find_spot ss n ≡ Some s → P s × ((handle_in s.self).number ≡ n)
spot_found P [] n s a e = absurd (let z : ◌≡◌ {A = ℕ} 0 1 = cc in omega arith)
spot_found P (x ∷ ss) n s a e = go (eqb (handle_in x.self).number n) refl (spot_found P ss n s a.1) e
  where
    go : (b : Bool) → eqb (handle_in x.self).number n ≡ b → (find_spot ss n ≡ Some s → P s × ((handle_in s.self).number ≡ n)) → cond b (Some x) (find_spot ss n) ≡ Some s → P s × ((handle_in s.self).number ≡ n)
    go true q ih is = let same : x ≡ s = cc in subst (λ y. P y × ((handle_in y.self).number ≡ n)) same (a.0, eqb-true _ _ q)
    go false q ih is = ih is

pub entry_found : (P : EntrySpot → Type 0) (ss : List EntrySpot) (n : ℕ) (s : EntrySpot) → AllByRecursion P ss → find_entry ss n ≡ Some s → P s × (s.self.handle.number ≡ n)
entry_found P [] n s a e = absurd (let z : ◌≡◌ {A = ℕ} 0 1 = cc in omega arith)
entry_found P (x ∷ ss) n s a e = go (eqb x.self.handle.number n) refl (entry_found P ss n s a.1) e
  where
    go : (b : Bool) → eqb x.self.handle.number n ≡ b → (find_entry ss n ≡ Some s → P s × (s.self.handle.number ≡ n)) → cond b (Some x) (find_entry ss n) ≡ Some s → P s × (s.self.handle.number ≡ n)
    go true q ih is = let same : x ≡ s = cc in subst (λ y. P y × (y.self.handle.number ≡ n)) same (a.0, eqb-true _ _ q)
    go false q ih is = ih is

-- what is linked is found
pub record Met {X : Type 0} (o : Option X) : Type 0 where
  pub value : X
  pub is : o ≡ Some value

pub met : {X Y : Type 0} (f : X → Y) (o : Option X) (y : Y) → Some y ≡ option_map f o → Met o
met f None y e = none_some y (sym e)
met f (Some x) y e = record { value = x; is = refl }

pub unmet : {X Y : Type 0} (f : X → Y) (o : Option X) → None ≡ option_map f o → o ≡ None
unmet f None e = refl
unmet f (Some x) e = none_some (f x) e

-- a value is there, where its absence is impossible
pub is_there : {X P : Type 0} (o : Option X) → IfNone o P → (P → ⊥) → IsSome o
is_there None p not = absurd (not p)
is_there (Some x) p not = refl
