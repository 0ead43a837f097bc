-- A search by a name along the handles from one on. Assumes nothing.
use Rattle.std.proofs.Common.{◌≡◌, ℕ, Bool, true, false, cond, ◌||◌, List, [], ◌∷◌, map, drop, find, Some, None, Option, sym, refl, ap, ap₂, ◌∙◌, subst}
use Rattle.std.specs.List.{list_any}
use Rattle.std.specs.Str.{bytes_eq}
use Rattle.tree.specs.declared.handle.NodeHandle.{NodeHandle}
use Rattle.tree.specs.declared.handle.EntryHandle.{EntryHandle}
use Rattle.tree.specs.Document.{Ident, Entry, Node, Nodes, handle_in, head_in, property_then, properties_in}
use Rattle.tree.specs.Going.{Spot, EntrySpot, found, found_entry, then, first, first_of, name, entry_name}
use Rattle.tree.specs.Limits.{Lawful}
use Rattle.spots.specs.Rows.{row, row_of, nodes_from, entry_row, entry_row_of, entries_from}
use Rattle.spots.proofs.Finding.{nil_cons}
use Rattle.spots.proofs.Rows.{row_next, entry_row_next}
use Rattle.lists.specs.Properties.{is_property}
use Rattle.lists.specs.Groups.{called, is_child, those_called}
use Rattle.searches.specs.Searches.{is_called, ident_is, is_named, NextCalled}

pub property_head : (m : List ℕ) (x : Entry) (es : List Entry) → is_property (properties_in (x ∷ es)) m ≡ (ident_is x.name m || is_property (properties_in es) m)
property_head m x es = go x.name
  where
    go : (o : Option Ident) → is_property (property_then o x (properties_in es)) m ≡ (ident_is o m || is_property (properties_in es) m)
    go None = refl
    go (Some i) = refl

module _ (d : Nodes) (m : List ℕ) where
  abbrev named_of : Option Spot → Bool
  named_of o = ident_is (then o (λ s. Some (head_in s.self).name)) m

  abbrev entry_named_of : Option EntrySpot → Bool
  entry_named_of o = ident_is (then o (λ s. s.self.name)) m

  -- the name that a handle has is that of what is found by it
  pub called_told : (h : NodeHandle) → ident_is (name d h) m ≡ is_called (found d h) m
  called_told h = go (found d h)
    where
      go : (o : Option Spot) → named_of o ≡ is_called o m
      go None = refl
      go (Some s) = refl

  pub named_told : (e : EntryHandle) → ident_is (entry_name d e) m ≡ is_named (found_entry d e) m
  named_told e = go (found_entry d e)
    where
      go : (o : Option EntrySpot) → entry_named_of o ≡ is_named o m
      go None = refl
      go (Some s) = refl

  -- what stands first in a row is found
  headed : (n : Node) (ns : List Node) → row d (Some (handle_in n)) ≡ n ∷ ns → (s : Spot) × (found d (handle_in n) ≡ Some s) × (s.self ∷ s.after ≡ n ∷ ns)
  headed n ns e = go (found d (handle_in n)) refl e
    where
      go : (o : Option Spot) → found d (handle_in n) ≡ o → row_of o ≡ n ∷ ns → (s : Spot) × (found d (handle_in n) ≡ Some s) × (s.self ∷ s.after ≡ n ∷ ns)
      go None q r = nil_cons n ns r
      go (Some s) q r = (s, q, r)

  entry_headed : (x : Entry) (es : List Entry) → entry_row d (Some x.handle) ≡ x ∷ es → (s : EntrySpot) × (found_entry d x.handle ≡ Some s) × (s.self ∷ s.after ≡ x ∷ es)
  entry_headed x es e = go (found_entry d x.handle) refl e
    where
      go : (o : Option EntrySpot) → found_entry d x.handle ≡ o → entry_row_of o ≡ x ∷ es → (s : EntrySpot) × (found_entry d x.handle ≡ Some s) × (s.self ∷ s.after ≡ x ∷ es)
      go None q r = nil_cons x es r
      go (Some s) q r = (s, q, r)

  -- r is the first of the nodes that has the name
  abbrev FirstIn : List Node → Option NodeHandle → Type 0
  FirstIn ns None = those_called m ns ≡ []
  FirstIn ns (Some h) = (s : Spot) × (found d h ≡ Some s) × (those_called m ns ≡ s.self ∷ those_called m s.after)

  picked : (h : NodeHandle) (s : Spot) (b : Bool) (r : Option NodeHandle) → found d h ≡ Some s → bytes_eq (called s.self) m ≡ b → FirstIn s.after r → FirstIn (s.self ∷ s.after) (cond b (Some h) r)
  picked h s true r q e w = (s, q, ap (λ c. cond c (s.self ∷ those_called m s.after) (those_called m s.after)) e)
  picked h s false None q e w = ap (λ c. cond c (s.self ∷ those_called m s.after) (those_called m s.after)) e ∙ w
  picked h s false (Some k) q e w = (w.0, w.1, ap (λ c. cond c (s.self ∷ those_called m s.after) (those_called m s.after)) e ∙ w.2)

  module _ (law : Lawful d) where
    first_in : (ns : List Node) → row d (first ns) ≡ ns → FirstIn ns (find (λ h. ident_is (name d h) m) (map handle_in ns))
    first_in [] e = refl
    first_in (n ∷ ns) e =
        let k = headed n ns e in
        let after : k.0.after ≡ ns = let h = k.2 in cc in
        let rest = first_in ns (ap (λ l. row d (first l)) (sym after) ∙ row_next d law (handle_in n) k.0 k.1 ∙ after) in
        subst (λ l. FirstIn l (find (λ h. ident_is (name d h) m) (map handle_in (n ∷ ns)))) k.2
        (picked (handle_in n) k.0 _ _ k.1 (sym (ap named_of k.1)) (subst (λ l. FirstIn l (find (λ h. ident_is (name d h) m) (map handle_in ns))) (sym after) rest))

    pub next_told : (start : Option NodeHandle) → NextCalled d m start (find (λ h. ident_is (name d h) m) (nodes_from d start))
    next_told start = as_next start (find (λ h. ident_is (name d h) m) (nodes_from d start)) (from start)
      where
        at_found : (h : NodeHandle) (o : Option Spot) → found d h ≡ o → FirstIn (row_of o) (find (λ k. ident_is (name d k) m) (h ∷ map handle_in (drop 1 (row_of o))))
        at_found h None q = subst (λ b. FirstIn [] (cond b (Some h) None)) (sym (ap named_of q)) refl
        at_found h (Some s) q = picked h s _ _ q (sym (ap named_of q)) (first_in s.after (row_next d law h s q))

        from : (o : Option NodeHandle) → FirstIn (row d o) (find (λ h. ident_is (name d h) m) (nodes_from d o))
        from None = refl
        from (Some h) = at_found h (found d h) refl

        as_next : (o r : Option NodeHandle) → FirstIn (row d o) r → NextCalled d m o r
        as_next o None w = w
        as_next o (Some h) w = w

    any_in : (ns : List Node) → row d (first ns) ≡ ns → list_any (λ h. ident_is (name d h) m) (map handle_in ns) ≡ is_child ns m
    any_in [] e = refl
    any_in (n ∷ ns) e =
        let k = headed n ns e in
        let self : k.0.self ≡ n = let h = k.2 in cc in
        let after : k.0.after ≡ ns = let h = k.2 in cc in
        ap₂ (λ a b. a || b) (ap named_of k.1 ∙ ap (λ c. bytes_eq (called c) m) self)
        (any_in ns (ap (λ l. row d (first l)) (sym after) ∙ row_next d law (handle_in n) k.0 k.1 ∙ after))

    -- whether a node from one on has the name
    pub child_told : (start : Option NodeHandle) → list_any (λ h. ident_is (name d h) m) (nodes_from d start) ≡ is_child (row d start) m
    child_told None = refl
    child_told (Some h) = go (found d h) refl
      where
        go : (o : Option Spot) → found d h ≡ o → list_any (λ k. ident_is (name d k) m) (h ∷ map handle_in (drop 1 (row_of o))) ≡ is_child (row_of o) m
        go None q = ap (λ b. b || false) (ap named_of q)
        go (Some s) q = ap₂ (λ a b. a || b) (ap named_of q) (any_in s.after (row_next d law h s q))

    any_entry : (es : List Entry) → entry_row d (first_of es) ≡ es → list_any (λ e. ident_is (entry_name d e) m) (map (λ (x : Entry). x.handle) es) ≡ is_property (properties_in es) m
    any_entry [] e = refl
    any_entry (x ∷ es) e =
        let k = entry_headed x es e in
        let self : k.0.self ≡ x = let h = k.2 in cc in
        let after : k.0.after ≡ es = let h = k.2 in cc in
        ap₂ (λ a b. a || b) (ap entry_named_of k.1 ∙ ap (λ (y : Entry). ident_is y.name m) self)
        (any_entry es (ap (λ l. entry_row d (first_of l)) (sym after) ∙ entry_row_next d law x.handle k.0 k.1 ∙ after))
        ∙ sym (property_head m x es)

    -- whether an entry from one on is a property with the name
    pub property_told : (start : Option EntryHandle) → list_any (λ e. ident_is (entry_name d e) m) (entries_from d start) ≡ is_property (properties_in (entry_row d start)) m
    property_told None = refl
    property_told (Some x) = go (found_entry d x) refl
      where
        go : (o : Option EntrySpot) → found_entry d x ≡ o → list_any (λ e. ident_is (entry_name d e) m) (x ∷ map (λ (y : Entry). y.handle) (drop 1 (entry_row_of o))) ≡ is_property (properties_in (entry_row_of o)) m
        go None q = ap (λ b. b || false) (ap entry_named_of q)
        go (Some s) q = ap₂ (λ a b. a || b) (ap entry_named_of q) (any_entry s.after (entry_row_next d law x s q)) ∙ sym (property_head m s.self s.after)
