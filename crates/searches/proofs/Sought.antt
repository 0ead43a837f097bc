-- One turn of the search for the first of a name. Assumes nothing.
use Rattle.std.proofs.Common.{◌≡◌, ℕ, Bool, true, false, cond, ◌||◌, List, [], ◌∷◌, ◌++◌, length, Some, None, Option, sym, refl, ap, ◌∙◌, arith, length-append}
use Rattle.std.specs.Str.{bytes_eq}
use Rattle.tree.specs.declared.handle.NodeHandle.{NodeHandle}
use Rattle.tree.specs.Document.{Ident, Node, Nodes, handle_in, head_in}
use Rattle.tree.specs.Going.{Spot, found, then, first, next_sibling, name}
use Rattle.tree.specs.Limits.{Lawful}
use Rattle.spots.specs.Rows.{row, row_of, earlier_of}
use Rattle.spots.proofs.Finding.{none_some, nil_cons}
use Rattle.spots.proofs.Rows.{row_next, earlier_next, found_handle}
use Rattle.lists.specs.Groups.{Group, called, is_child, those_called, groups_after}
use Rattle.searches.specs.Searches.{is_called, first_of_siblings, groups_at, NextGroup}
use Rattle.searches.proofs.Firsts.{row_siblings}

-- the node is there and has the name m; from e on its siblings come first, up to it, of which one has the name if an earlier one has
pub record Sought (d : Nodes) (h : NodeHandle) (m : List ℕ) (e : Option NodeHandle) : Type 0 where
  pub spot : Spot
  pub is : found d h ≡ Some spot
  pub named : called spot.self ≡ m
  pub rest : List Node
  pub split : row d e ≡ rest ++ spot.self ∷ spot.after
  pub same : is_child spot.before m ≡ is_child rest m

-- at an earlier sibling
record Met (d : Nodes) (h : NodeHandle) (m : List ℕ) (s t : Spot) : Type 0 where
  rest : List Node
  split : t.after ≡ rest ++ s.self ∷ s.after
  same : is_child s.before m ≡ (bytes_eq (called t.self) m || is_child rest m)

nil_later : {X Y : Type 0} (xs : List X) (x : X) (ys : List X) → ◌≡◌ {A = List X} [] (xs ++ x ∷ ys) → Y
nil_later [] x ys e = nil_cons x ys e
nil_later (y ∷ xs) x ys e = nil_cons y (xs ++ x ∷ ys) e

module _ (d : Nodes) (law : Lawful d) where
  pub sought_first : (h : NodeHandle) (i : Ident) (e : Option NodeHandle) → Some i ≡ name d h → e ≡ first_of_siblings d h → Sought d h i.bytes e
  sought_first h i e named is = go (found d h) refl named
    where
      go : (o : Option Spot) → found d h ≡ o → Some i ≡ then o (λ s. Some (head_in s.self).name) → Sought d h i.bytes e
      go None q n = none_some i (sym n)
      go (Some s) q n =
          let same : (head_in s.self).name ≡ i = cc in
          record { spot = s; is = q; named = ap (λ (x : Ident). x.bytes) same; rest = s.before; split = ap (row d) is ∙ row_siblings d law h s q; same = refl }

  -- the siblings are not at an end before the node is met
  pub sought_end : {Y : Type 0} (h : NodeHandle) (m : List ℕ) (e : Option NodeHandle) → Sought d h m e → e ≡ None → Y
  sought_end h m e s is = nil_later s.rest s.spot.self s.spot.after (sym (ap (row d) is) ∙ s.split)

  pub sought_met : (h : NodeHandle) (m : List ℕ) (e : Option NodeHandle) (k : NodeHandle) → (s : Sought d h m e) → e ≡ Some k → k ≡ h → is_child s.spot.before m ≡ false
  sought_met h m e k s is eq = go s.rest (sym (ap row_of s.is) ∙ ap (row d) (sym (is ∙ ap Some eq)) ∙ s.split) s.same
    where
      go : (l : List Node) → s.spot.self ∷ s.spot.after ≡ l ++ s.spot.self ∷ s.spot.after → is_child s.spot.before m ≡ is_child l m → is_child s.spot.before m ≡ false
      go [] q r = r
      go (x ∷ l) q r = let long = ap length q ∙ length-append (x ∷ l) (s.spot.self ∷ s.spot.after) in absurd (omega arith)

  met : (h : NodeHandle) (m : List ℕ) (e : Option NodeHandle) (k : NodeHandle) → (s : Sought d h m e) → e ≡ Some k → (k ≡ h → ⊥) → (t : Spot) → found d k ≡ Some t → Met d h m s.spot t
  met h m e k s is other t f = go s.rest (sym (ap row_of f) ∙ ap (row d) (sym is) ∙ s.split) s.same
    where
      go : (l : List Node) → t.self ∷ t.after ≡ l ++ s.spot.self ∷ s.spot.after → is_child s.spot.before m ≡ is_child l m → Met d h m s.spot t
      go [] q r =
          let same : t.self ≡ s.spot.self = cc in
          absurd (other (sym (found_handle d law k t f) ∙ ap handle_in same ∙ found_handle d law h s.spot s.is))
      go (x ∷ l) q r =
          let same : x ≡ t.self = cc in
          let tail : t.after ≡ l ++ s.spot.self ∷ s.spot.after = cc in
          record { rest = l; split = tail; same = r ∙ ap (λ y. bytes_eq (called y) m || is_child l m) same }

  pub sought_next : (h : NodeHandle) (m : List ℕ) (e : Option NodeHandle) (k : NodeHandle) (n : Option NodeHandle) → Sought d h m e → e ≡ Some k → (k ≡ h → ⊥) → n ≡ next_sibling d k → is_called (found d k) m ≡ false → Sought d h m n
  sought_next h m e k n s is other next unlike = go (found d k) refl next unlike
    where
      go : (o : Option Spot) → found d k ≡ o → n ≡ then o (λ t. first t.after) → is_called o m ≡ false → Sought d h m n
      go None q f t = nil_later s.rest s.spot.self s.spot.after (sym (ap row_of q) ∙ ap (row d) (sym is) ∙ s.split)
      go (Some t) q f c =
          let w = met h m e k s is other t q in
          record {
            spot = s.spot;
            is = s.is;
            named = s.named;
            rest = w.rest;
            split = ap (row d) f ∙ row_next d law k t q ∙ w.split;
            same = w.same ∙ ap (λ b. b || is_child w.rest m) c;
          }

  pub sought_alike : (h : NodeHandle) (m : List ℕ) (e : Option NodeHandle) (k : NodeHandle) → (s : Sought d h m e) → e ≡ Some k → (k ≡ h → ⊥) → is_called (found d k) m ≡ true → is_child s.spot.before m ≡ true
  sought_alike h m e k s is other alike = go (found d k) refl alike
    where
      go : (o : Option Spot) → found d k ≡ o → is_called o m ≡ true → is_child s.spot.before m ≡ true
      go None q c = let z : ◌≡◌ {A = ℕ} 0 1 = cc in absurd (omega arith)
      go (Some t) q c = let w = met h m e k s is other t q in w.same ∙ ap (λ b. b || is_child w.rest m) c

  -- the groups from a node on
  abbrev split_groups : Spot → Bool → List Group
  split_groups s b =
      cond b (groups_after (s.before ++ s.self ∷ []) s.after)
      (record { first = s.self; others = those_called (called s.self) s.after } ∷ groups_after (s.before ++ s.self ∷ []) s.after)

  at_found : (at : Option NodeHandle) (h : NodeHandle) (s : Spot) → at ≡ Some h → found d h ≡ Some s → groups_at d at ≡ split_groups s (is_child s.before (called s.self))
  at_found at h s is q = ap (groups_at d) is ∙ ap (λ o. groups_after (earlier_of o) (row_of o)) q

  groups_next : (h : NodeHandle) (s : Spot) → found d h ≡ Some s → groups_at d (first s.after) ≡ groups_after (s.before ++ s.self ∷ []) s.after
  groups_next h s q = go s.after refl
    where
      go : (ns : List Node) → s.after ≡ ns → groups_at d (first ns) ≡ groups_after (s.before ++ s.self ∷ []) ns
      go [] e = refl
      go (n ∷ ns) e =
          ap (λ l. groups_after l (row d (Some (handle_in n)))) (earlier_next d law h s n ns q e)
          ∙ ap (groups_after (s.before ++ s.self ∷ [])) (ap (λ l. row d (first l)) (sym e) ∙ row_next d law h s q ∙ e)

  pub groups_passed : (at : Option NodeHandle) (h : NodeHandle) (n : Option NodeHandle) (m : List ℕ) (s : Spot) → at ≡ Some h → found d h ≡ Some s → called s.self ≡ m → is_child s.before m ≡ true → n ≡ next_sibling d h → groups_at d at ≡ groups_at d n
  groups_passed at h n m s is q named seen next =
      at_found at h s is q
      ∙ ap (split_groups s) (ap (is_child s.before) named ∙ seen)
      ∙ sym (groups_next h s q)
      ∙ ap (groups_at d) (sym (next ∙ ap (λ o. then o (λ t. first t.after)) q))

  pub group_begins : (start at : Option NodeHandle) (h : NodeHandle) (m : List ℕ) (s : Spot) → groups_at d start ≡ groups_at d at → at ≡ Some h → found d h ≡ Some s → called s.self ≡ m → is_child s.before m ≡ false → NextGroup d start (Some h)
  group_begins start at h m s so is q named fresh = (s, q, so ∙ at_found at h s is q ∙ ap (split_groups s) (ap (is_child s.before) named ∙ fresh))
