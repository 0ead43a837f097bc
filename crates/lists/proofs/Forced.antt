-- The properties in force are the last of each name. Assumes nothing.
use Rattle.std.proofs.Common.{◌≡◌, ℕ, ◌+◌, Bool, true, false, cond, ◌||◌, List, [], ◌∷◌, ◌++◌, sym, refl, ap, ◌∙◌, ap₂, append_assoc, arith}
use Rattle.std.proofs.lemmas.Bool.{or_parts}
use Rattle.std.specs.List.{AllByRecursion}
use Rattle.std.specs.Str.{bytes_eq}
use Rattle.tree.specs.Document.{Property}
use Rattle.lists.specs.Each.{times, Subsequence, empty, kept, passed}
use Rattle.lists.specs.Properties.{is_property, in_force, InForce}
use Rattle.lists.specs.Partition.{properties_called, Forced}
use Rattle.lists.proofs.Names.{swap, equal, itself}

abbrev has_name : List ℕ → Property → Bool
has_name m p = bytes_eq p.name.bytes m

in_order : (ps : List Property) → Subsequence (in_force ps) ps
in_order [] = empty
in_order (p ∷ ps) = go (is_property ps p.name.bytes) (in_order ps)
  where
    go : (b : Bool) → Subsequence (in_force ps) ps → Subsequence (cond b (in_force ps) (p ∷ in_force ps)) (p ∷ ps)
    go true h = passed h
    go false h = kept h

-- those of ps are in force in before ++ ps
lasts : (whole before ps : List Property) → whole ≡ before ++ ps → AllByRecursion (InForce whole) (in_force ps)
lasts whole before [] e = tt
lasts whole before (p ∷ ps) e = go (is_property ps p.name.bytes) refl (lasts whole (before ++ p ∷ []) ps (e ∙ sym (append_assoc before (p ∷ []) ps)))
  where
    go : (b : Bool) → is_property ps p.name.bytes ≡ b → AllByRecursion (InForce whole) (in_force ps) → AllByRecursion (InForce whole) (cond b (in_force ps) (p ∷ in_force ps))
    go true q h = h
    go false q h = (record { before = before; after = ps; among = e; no_later = q }, h)

once : (m : List ℕ) (ps : List Property) → times (has_name m) (in_force ps) ≡ cond (is_property ps m) 1 0
once m [] = refl
once m (p ∷ ps) = go (is_property ps p.name.bytes) (bytes_eq p.name.bytes m) (is_property ps m) refl (λ e. ap (is_property ps) (sym (equal p.name.bytes m e))) (once m ps)
  where
    go : (b u k : Bool) → bytes_eq p.name.bytes m ≡ u → (u ≡ true → k ≡ b) → times (has_name m) (in_force ps) ≡ cond k 1 0
        → times (has_name m) (cond b (in_force ps) (p ∷ in_force ps)) ≡ cond (u || k) 1 0
    go true true k e h ih = ih ∙ ap (λ x. cond x 1 0) (h refl)
    go true false k e h ih = ih
    go false true k e h ih = ap₂ (λ x n. cond x 1 0 + n) e (ih ∙ ap (λ x. cond x 1 0) (h refl))
    go false false k e h ih = ap₂ (λ x n. cond x 1 0 + n) e ih ∙ (omega arith)

-- a name that no property has names none in force
pub no_such : (m : List ℕ) (ps : List Property) → is_property ps m ≡ false → properties_called m (in_force ps) ≡ []
no_such m [] h = refl
no_such m (p ∷ ps) h =
    let parts = or_parts (bytes_eq p.name.bytes m) (is_property ps m) h in
    go (is_property ps p.name.bytes) parts.0 (no_such m ps parts.1)
  where
    go : (b : Bool) → bytes_eq p.name.bytes m ≡ false → properties_called m (in_force ps) ≡ [] → properties_called m (cond b (in_force ps) (p ∷ in_force ps)) ≡ []
    go true d ih = ih
    go false d ih = ap₂ (λ t l. cond t (p ∷ l) l) d ih

found_in : (before after : List Property) (p : Property) (m : List ℕ) → is_property (before ++ p ∷ after) m ≡ false → bytes_eq p.name.bytes m ≡ false
found_in [] after p m h = (or_parts (bytes_eq p.name.bytes m) (is_property after m) h).0
found_in (q ∷ before) after p m h = found_in before after p m (or_parts (bytes_eq q.name.bytes m) (is_property (before ++ p ∷ after) m) h).1

the_last : (before after : List Property) (p : Property) → is_property after p.name.bytes ≡ false → properties_called p.name.bytes (in_force (before ++ p ∷ after)) ≡ p ∷ []
the_last [] after p h =
    ap (λ b. properties_called p.name.bytes (cond b (in_force after) (p ∷ in_force after))) h
    ∙ ap₂ (λ t l. cond t (p ∷ l) l) (itself p.name.bytes) (no_such p.name.bytes after h)
the_last (q ∷ before) after p h = go (is_property (before ++ p ∷ after) q.name.bytes) refl (the_last before after p h)
  where
    later : List Property
    later = before ++ p ∷ after

    m : List ℕ
    m = p.name.bytes

    go : (b : Bool) → is_property later q.name.bytes ≡ b → properties_called m (in_force later) ≡ p ∷ [] → properties_called m (cond b (in_force later) (q ∷ in_force later)) ≡ p ∷ []
    go true e ih = ih
    go false e ih = ap₂ (λ t l. cond t (q ∷ l) l) (swap q.name.bytes m ∙ found_in before after p q.name.bytes e) ih

-- the last of a name is what is in force of that name
pub the_one : (ps : List Property) (p : Property) → InForce ps p → properties_called p.name.bytes (in_force ps) ≡ p ∷ []
the_one ps p h = ap (λ l. properties_called p.name.bytes (in_force l)) h.among ∙ the_last h.before h.after p h.no_later

pub forced : (ps : List Property) → Forced ps (in_force ps)
forced ps = record { each_name = λ m. once m ps; last = lasts ps [] ps refl; every_last = the_one ps; in_order = in_order ps }
