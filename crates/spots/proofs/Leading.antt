-- The next sibling, the first child and the next entry stand in the document where they should. Assumes nothing.
use Rattle.std.proofs.Common.{◌≡◌, ℕ, suc, List, [], ◌∷◌, ◌++◌, Some, None, Option, sym, refl, ap, ◌∙◌, subst, inl, inr, ⊎_elim, append_assoc}
use Rattle.tree.specs.declared.handle.NodeHandle.{NodeHandle}
use Rattle.tree.specs.Document.{Entry, Node, node, Block, no_block, block, Nodes, nil, cons, handle_in, head_in, block_in, within, listed}
use Rattle.tree.specs.Going.{Spot, EntrySpot, spots, spots_in, spots_of, entries_from, entries_at, entries_of}
use Rattle.spots.proofs.Finding.{none_some, Among, among_left, among_right, among_split, Leads, leads_more}

abbrev next_from : Spot → List Node → Option Spot
next_from s [] = None
next_from s (n ∷ ns) = Some (record { before = s.before ++ s.self ∷ []; self = n; after = ns; parent = s.parent; nesting = s.nesting })

-- the next sibling
abbrev pub next_spot : Spot → Option Spot
next_spot s = next_from s s.after

abbrev opening : ℕ → Option NodeHandle → List Node → Option Spot
opening d p [] = None
opening d p (n ∷ ns) = Some (record { before = []; self = n; after = ns; parent = p; nesting = d })

-- the first child
abbrev pub inner_spot : Spot → Option Spot
inner_spot s = opening (suc s.nesting) (Some (handle_in s.self)) (listed (within (block_in s.self)))

-- the first node of a document
abbrev pub top_spot : Nodes → Option Spot
top_spot doc = opening 1 None (listed doc)

abbrev here : ℕ → Option NodeHandle → List Node → Node → Nodes → Spot
here d p before n ns = record { before = before; self = n; after = listed ns; parent = p; nesting = d }

next_head : (d : ℕ) (p : Option NodeHandle) (before : List Node) (n : Node) (ns : Nodes) (t : Spot) → next_spot (here d p before n ns) ≡ Some t → Among t (spots d p (before ++ n ∷ []) ns)
unfolding spots
next_head d p before n nil t e = none_some t e
next_head d p before n (cons m ns) t e = inl (cc)

mutual
  unfolding spots

  next_in : (d : ℕ) (n : Node) → Leads next_spot (spots_in d n) (spots_in d n)
  next_in d (node h head b) = next_of (suc d) (Some h) b

  next_of : (d : ℕ) (p : Option NodeHandle) (b : Block) → Leads next_spot (spots_of d p b) (spots_of d p b)
  next_of d p no_block = λ s t h e. absurd h
  next_of d p (block ns) = next_all d p [] ns

  pub next_all : (d : ℕ) (p : Option NodeHandle) (before : List Node) (ns : Nodes) → Leads next_spot (spots d p before ns) (spots d p before ns)
  next_all d p before nil = λ s t h e. absurd h
  next_all d p before (cons n ns) =
      leads_more next_spot (here d p before n ns) (spots_in d n) (spots d p (before ++ n ∷ []) ns) (λ t e. among_right t (spots_in d n) _ (next_head d p before n ns t e)) (next_in d n) (next_all d p (before ++ n ∷ []) ns)

pub open_head : (d : ℕ) (p : Option NodeHandle) (ns : Nodes) (t : Spot) → opening d p (listed ns) ≡ Some t → Among t (spots d p [] ns)
unfolding spots
open_head d p nil t e = none_some t e
open_head d p (cons m ns) t e = inl (cc)

inner_head : (d : ℕ) (p : Option NodeHandle) (before : List Node) (n : Node) (ns : Nodes) (t : Spot) → inner_spot (here d p before n ns) ≡ Some t → Among t (spots_in d n)
unfolding spots
inner_head d p before (node h head no_block) ns t e = none_some t e
inner_head d p before (node h head (block bs)) ns t e = open_head (suc d) (Some h) bs t e

mutual
  unfolding spots

  inner_in : (d : ℕ) (n : Node) → Leads inner_spot (spots_in d n) (spots_in d n)
  inner_in d (node h head b) = inner_of (suc d) (Some h) b

  inner_of : (d : ℕ) (p : Option NodeHandle) (b : Block) → Leads inner_spot (spots_of d p b) (spots_of d p b)
  inner_of d p no_block = λ s t h e. absurd h
  inner_of d p (block ns) = inner_all d p [] ns

  pub inner_all : (d : ℕ) (p : Option NodeHandle) (before : List Node) (ns : Nodes) → Leads inner_spot (spots d p before ns) (spots d p before ns)
  inner_all d p before nil = λ s t h e. absurd h
  inner_all d p before (cons n ns) =
      leads_more inner_spot (here d p before n ns) (spots_in d n) (spots d p (before ++ n ∷ []) ns) (λ t e. among_left t (spots_in d n) _ (inner_head d p before n ns t e)) (inner_in d n) (inner_all d p (before ++ n ∷ []) ns)

-- siblings, where H tells the nodes that a node or the document holds
module _ (H : Option NodeHandle → List Node) where
  abbrev pub Whole : Spot → Type 0
  Whole s = H s.parent ≡ s.before ++ s.self ∷ s.after

  -- H tells the children of each of these
  abbrev pub Tells : List Spot → Type 0
  Tells xs = (s : Spot) → Among s xs → H (Some (handle_in s.self)) ≡ listed (within (block_in s.self))

  mutual
    unfolding spots

    whole_in : (d : ℕ) (n : Node) → Tells (spots_in d n) → H (Some (handle_in n)) ≡ listed (within (block_in n)) → (s : Spot) → Among s (spots_in d n) → Whole s
    whole_in d (node h head b) tells is s a = whole_of (suc d) (Some h) b tells is s a

    whole_of : (d : ℕ) (p : Option NodeHandle) (b : Block) → Tells (spots_of d p b) → H p ≡ listed (within b) → (s : Spot) → Among s (spots_of d p b) → Whole s
    whole_of d p no_block tells is s a = absurd a
    whole_of d p (block ns) tells is s a = whole_all d p [] ns tells is s a

    pub whole_all : (d : ℕ) (p : Option NodeHandle) (before : List Node) (ns : Nodes) → Tells (spots d p before ns) → H p ≡ before ++ listed ns → (s : Spot) → Among s (spots d p before ns) → Whole s
    whole_all d p before nil tells is s a = absurd a
    whole_all d p before (cons n ns) tells is s (inl e) = subst Whole (sym e) is
    whole_all d p before (cons n ns) tells is s (inr a) =
        ⊎_elim
        (whole_in d n (λ t h. tells t (inr (among_left t (spots_in d n) _ h))) (tells (here d p before n ns) (inl refl)) s)
        (whole_all d p (before ++ n ∷ []) ns (λ t h. tells t (inr (among_right t (spots_in d n) _ h))) (is ∙ sym (append_assoc before (n ∷ []) (listed ns))) s)
        (among_split s (spots_in d n) (spots d p (before ++ n ∷ []) ns) a)

-- entries
abbrev entry_opening : NodeHandle → List Entry → Option EntrySpot
entry_opening h [] = None
entry_opening h (e ∷ es) = Some (record { self = e; after = es; node = h })

-- the next entry of the same node
abbrev pub next_entry_spot : EntrySpot → Option EntrySpot
next_entry_spot s = entry_opening s.node s.after

-- the first entry of a node
abbrev pub first_entry_spot : Spot → Option EntrySpot
first_entry_spot s = entry_opening (handle_in s.self) (head_in s.self).entries

entries_next : (h : NodeHandle) (es : List Entry) → Leads next_entry_spot (entries_from h es) (entries_from h es)
entries_next h [] s t a e = absurd a
entries_next h (x ∷ []) s t (inl q) e = none_some t (sym (ap next_entry_spot q) ∙ e)
entries_next h (x ∷ []) s t (inr a) e = absurd a
entries_next h (x ∷ (y ∷ es)) s t (inl q) e = inr (inl (let f = sym (ap next_entry_spot q) ∙ e in cc))
entries_next h (x ∷ (y ∷ es)) s t (inr a) e = inr (entries_next h (y ∷ es) s t a e)

pub entry_next : (ss : List Spot) → Leads next_entry_spot (entries_of ss) (entries_of ss)
entry_next [] s t a e = absurd a
entry_next (x ∷ ss) s t a e =
    ⊎_elim
    (λ l. among_left t (entries_at x) (entries_of ss) (entries_next (handle_in x.self) (head_in x.self).entries s t l e))
    (λ r. among_right t (entries_at x) (entries_of ss) (entry_next ss s t r e))
    (among_split s (entries_at x) (entries_of ss) a)

entries_first : (h : NodeHandle) (es : List Entry) (t : EntrySpot) → entry_opening h es ≡ Some t → Among t (entries_from h es)
entries_first h [] t e = none_some t e
entries_first h (x ∷ es) t e = inl (cc)

pub entry_first : (ss : List Spot) (s : Spot) (t : EntrySpot) → Among s ss → first_entry_spot s ≡ Some t → Among t (entries_of ss)
entry_first [] s t a e = absurd a
entry_first (x ∷ ss) s t (inl q) e = among_left t (entries_at x) (entries_of ss) (entries_first (handle_in x.self) (head_in x.self).entries t (sym (ap first_entry_spot q) ∙ e))
entry_first (x ∷ ss) s t (inr a) e = among_right t (entries_at x) (entries_of ss) (entry_first ss s t a e)

-- an entry stands in its node behind some others
pub record Owned (ss : List Spot) (t : EntrySpot) : Type 0 where
  pub owner : Spot
  pub among : Among owner ss
  pub is : t.node ≡ handle_in owner.self
  pub before : List Entry
  pub split : (head_in owner.self).entries ≡ before ++ t.self ∷ t.after

entries_split : (h : NodeHandle) (es : List Entry) (t : EntrySpot) → Among t (entries_from h es) → (t.node ≡ h) × ((before : List Entry) × (es ≡ before ++ t.self ∷ t.after))
entries_split h [] t a = absurd a
entries_split h (x ∷ es) t (inl q) = (ap (λ (z : EntrySpot). z.node) q, ([], ap (λ (z : EntrySpot). z.self ∷ z.after) (sym q)))
entries_split h (x ∷ es) t (inr a) = let k = entries_split h es t a in (k.0, (x ∷ k.1.0, ap (λ l. x ∷ l) k.1.1))

pub owned : (ss : List Spot) (t : EntrySpot) → Among t (entries_of ss) → Owned ss t
owned [] t a = absurd a
owned (x ∷ ss) t a =
    ⊎_elim
    (λ l. let k = entries_split (handle_in x.self) (head_in x.self).entries t l in record { owner = x; among = inl refl; is = k.0; before = k.1.0; split = k.1.1 })
    (λ r. let o = owned ss t r in record { owner = o.owner; among = inr o.among; is = o.is; before = o.before; split = o.split })
    (among_split t (entries_at x) (entries_of ss) a)
