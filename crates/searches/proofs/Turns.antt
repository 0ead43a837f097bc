-- One turn of each search by a name. Assumes nothing.
use Rattle.std.proofs.Common.{◌≡◌, ℕ, suc, ◌<◌, ◌≤◌, Bool, true, false, cond, ◌||◌, List, [], ◌∷◌, length, Some, None, Option, sym, refl, ap, ◌∙◌, subst, arith}
use Rattle.std.specs.Str.{bytes_eq}
use Rattle.tree.specs.declared.handle.NodeHandle.{NodeHandle}
use Rattle.tree.specs.declared.handle.EntryHandle.{EntryHandle}
use Rattle.tree.specs.Document.{Node, Nodes, properties_in}
use Rattle.tree.specs.Going.{Spot, EntrySpot, found, found_entry, then, first, first_of, next_sibling, next_entry}
use Rattle.tree.specs.Limits.{Lawful}
use Rattle.spots.specs.Rows.{row, row_of, entry_row, entry_row_of}
use Rattle.spots.proofs.Rows.{row_next, entry_row_next}
use Rattle.lists.specs.Properties.{is_property}
use Rattle.lists.specs.Groups.{called, is_child, those_called}
use Rattle.searches.proofs.Named.{property_head}
use Rattle.searches.specs.Searches.{is_called, is_named, NextCalled}

-- how many turns are left at most from a node on, or from an entry on
abbrev pub steps : Nodes → Option NodeHandle → ℕ
steps d None = 0
steps d (Some h) = suc (length (row d (Some h)))

abbrev pub entry_steps : Nodes → Option EntryHandle → ℕ
entry_steps d None = 0
entry_steps d (Some e) = suc (length (entry_row d (Some e)))

abbrev some_of : {X : Type 0} → List X → Bool
some_of [] = false
some_of (x ∷ xs) = true

-- whether one has the name is whether there are some of that name
child_some : (m : List ℕ) (cs : List Node) → is_child cs m ≡ some_of (those_called m cs)
child_some m [] = refl
child_some m (c ∷ cs) = go (bytes_eq (called c) m) (child_some m cs)
  where
    go : (b : Bool) → is_child cs m ≡ some_of (those_called m cs) → (b || is_child cs m) ≡ some_of (cond b (c ∷ those_called m cs) (those_called m cs))
    go true e = refl
    go false e = e

module _ (d : Nodes) where
  steps_most : (o : Option NodeHandle) → steps d o ≤ suc (length (row d o))
  steps_most None = omega arith
  steps_most (Some h) = omega arith

  entry_steps_most : (o : Option EntryHandle) → entry_steps d o ≤ suc (length (entry_row d o))
  entry_steps_most None = omega arith
  entry_steps_most (Some e) = omega arith

  pub called_found : (m : List ℕ) (at : Option NodeHandle) (h : NodeHandle) → at ≡ Some h → is_called (found d h) m ≡ true → NextCalled d m at (Some h)
  called_found m at h is alike = go (found d h) refl alike
    where
      go : (o : Option Spot) → found d h ≡ o → is_called o m ≡ true → NextCalled d m at (Some h)
      go None q t = let z : ◌≡◌ {A = ℕ} 0 1 = cc in absurd (omega arith)
      go (Some s) q t =
          (s, q, ap (λ o. those_called m (row d o)) is ∙ ap (λ o. those_called m (row_of o)) q ∙ ap (λ b. cond b (s.self ∷ those_called m s.after) (those_called m s.after)) t)

  -- what is found from a later node on is found from an earlier one on
  pub called_from : (m : List ℕ) (start at r : Option NodeHandle) → those_called m (row d start) ≡ those_called m (row d at) → NextCalled d m at r → NextCalled d m start r
  called_from m start at None e n = e ∙ n
  called_from m start at (Some h) e n = (n.0, n.1, e ∙ n.2)

  pub child_there : (m : List ℕ) (start : Option NodeHandle) (h : NodeHandle) → NextCalled d m start (Some h) → true ≡ is_child (row d start) m
  child_there m start h n = sym (child_some m (row d start) ∙ ap some_of n.2)

  pub child_absent : (m : List ℕ) (start : Option NodeHandle) → NextCalled d m start None → false ≡ is_child (row d start) m
  child_absent m start n = sym (child_some m (row d start) ∙ ap some_of n)

  pub property_found : (m : List ℕ) (at : Option EntryHandle) (e : EntryHandle) → at ≡ Some e → is_named (found_entry d e) m ≡ true → is_property (properties_in (entry_row d at)) m ≡ true
  property_found m at e is alike = ap (λ o. is_property (properties_in (entry_row d o)) m) is ∙ go (found_entry d e) alike
    where
      go : (o : Option EntrySpot) → is_named o m ≡ true → is_property (properties_in (entry_row_of o)) m ≡ true
      go None t = t
      go (Some s) t = property_head m s.self s.after ∙ ap (λ b. b || is_property (properties_in s.after) m) t

  module _ (law : Lawful d) where
    pub fewer : (at : Option NodeHandle) (h : NodeHandle) (n : Option NodeHandle) → at ≡ Some h → n ≡ next_sibling d h → steps d n < steps d at
    fewer at h n is next = subst (λ o. steps d n < steps d o) (sym is) (go (found d h) refl (next))
      where
        go : (o : Option Spot) → found d h ≡ o → n ≡ then o (λ s. first s.after) → steps d n < suc (length (row_of o))
        go None q e = let z = ap (steps d) e in omega arith
        go (Some s) q e =
            let most = steps_most n in
            let long = ap length (ap (row d) e ∙ row_next d law h s q) in
            omega arith

    pub called_passed : (m : List ℕ) (at : Option NodeHandle) (h : NodeHandle) (n : Option NodeHandle) → at ≡ Some h → n ≡ next_sibling d h → is_called (found d h) m ≡ false → those_called m (row d at) ≡ those_called m (row d n)
    called_passed m at h n is next other = ap (λ o. those_called m (row d o)) is ∙ go (found d h) refl next other
      where
        go : (o : Option Spot) → found d h ≡ o → n ≡ then o (λ s. first s.after) → is_called o m ≡ false → those_called m (row_of o) ≡ those_called m (row d n)
        go None q e t = ap (λ k. those_called m (row d k)) (sym e)
        go (Some s) q e t =
            ap (λ b. cond b (s.self ∷ those_called m s.after) (those_called m s.after)) t
            ∙ ap (those_called m) (sym (ap (row d) e ∙ row_next d law h s q))

    pub entry_fewer : (at : Option EntryHandle) (x : EntryHandle) (n : Option EntryHandle) → at ≡ Some x → n ≡ next_entry d x → entry_steps d n < entry_steps d at
    entry_fewer at x n is next = subst (λ o. entry_steps d n < entry_steps d o) (sym is) (go (found_entry d x) refl next)
      where
        go : (o : Option EntrySpot) → found_entry d x ≡ o → n ≡ then o (λ s. first_of s.after) → entry_steps d n < suc (length (entry_row_of o))
        go None q e = let z = ap (entry_steps d) e in omega arith
        go (Some s) q e =
            let most = entry_steps_most n in
            let long = ap length (ap (entry_row d) e ∙ entry_row_next d law x s q) in
            omega arith

    pub property_passed : (m : List ℕ) (at : Option EntryHandle) (x : EntryHandle) (n : Option EntryHandle) → at ≡ Some x → n ≡ next_entry d x → is_named (found_entry d x) m ≡ false → is_property (properties_in (entry_row d at)) m ≡ is_property (properties_in (entry_row d n)) m
    property_passed m at x n is next other = ap (λ o. is_property (properties_in (entry_row d o)) m) is ∙ go (found_entry d x) refl next other
      where
        go : (o : Option EntrySpot) → found_entry d x ≡ o → n ≡ then o (λ s. first_of s.after) → is_named o m ≡ false → is_property (properties_in (entry_row_of o)) m ≡ is_property (properties_in (entry_row d n)) m
        go None q e t = ap (λ k. is_property (properties_in (entry_row d k)) m) (sym e)
        go (Some s) q e t =
            property_head m s.self s.after
            ∙ ap (λ b. b || is_property (properties_in s.after) m) t
            ∙ ap (λ l. is_property (properties_in l) m) (sym (ap (entry_row d) e ∙ entry_row_next d law x s q))
