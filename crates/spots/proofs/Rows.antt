-- Siblings, children and entries, by handles. Assumes nothing.
use Rattle.std.proofs.Common.{◌≡◌, ℕ, suc, List, [], ◌∷◌, ◌++◌, Some, None, refl, ap, ◌∙◌}
use Rattle.tree.specs.declared.handle.NodeHandle.{NodeHandle}
use Rattle.tree.specs.declared.handle.EntryHandle.{EntryHandle}
use Rattle.tree.specs.Document.{Entry, Node, Nodes, handle_in, head_in, block_in, within, listed}
use Rattle.tree.specs.Going.{Spot, EntrySpot, all_spots, all_entries, find_spot, found, find_entry, found_entry, first, first_of, first_node}
use Rattle.tree.specs.Limits.{Lawful}
use Rattle.spots.specs.Rows.{row_of, row, earlier_of, earlier, inner_of, held_by, entry_row_of, entry_row}
use Rattle.spots.proofs.Finding.{Among, find_among, find_sound}
use Rattle.spots.proofs.Leading.{next_spot, inner_spot, top_spot, next_all, open_head, inner_all, Tells, whole_all, entry_next, entry_first, owned}

abbrev node_key : Spot → ℕ
node_key s = (handle_in s.self).number

abbrev entry_key : EntrySpot → ℕ
entry_key s = s.self.handle.number

module _ (d : Nodes) (law : Lawful d) where
  -- a node that stands in the document is found by its handle
  stands : (s : Spot) → Among s (all_spots d) → found d (handle_in s.self) ≡ Some s
  stands s a = find_among node_key find_spot (λ n. refl) (λ x xs n. refl) (all_spots d) law.nodes_rise s a

  pub among_found : (h : NodeHandle) (s : Spot) → found d h ≡ Some s → Among s (all_spots d)
  among_found h s e = (find_sound node_key find_spot (λ n. refl) (λ x xs n. refl) (all_spots d) h.number s e).0

  -- what is found by a handle has that handle
  pub found_handle : (h : NodeHandle) (s : Spot) → found d h ≡ Some s → handle_in s.self ≡ h
  found_handle h s e = ap (λ n. record { number = n }) (find_sound node_key find_spot (λ n. refl) (λ x xs n. refl) (all_spots d) h.number s e).1

  pub next_found : (h : NodeHandle) (s t : Spot) → found d h ≡ Some s → next_spot s ≡ Some t → found d (handle_in t.self) ≡ Some t
  next_found h s t e n = stands t (next_all 1 None [] d s t (among_found h s e) n)

  pub inner_found : (h : NodeHandle) (s t : Spot) → found d h ≡ Some s → inner_spot s ≡ Some t → found d (handle_in t.self) ≡ Some t
  inner_found h s t e n = stands t (inner_all 1 None [] d s t (among_found h s e) n)

  pub top_found : (t : Spot) → top_spot d ≡ Some t → found d (handle_in t.self) ≡ Some t
  top_found t n = stands t (open_head 1 None d t n)

  -- the row that a node's next sibling begins
  pub row_next : (h : NodeHandle) (s : Spot) → found d h ≡ Some s → row d (first s.after) ≡ s.after
  row_next h s e = go s.after refl
    where
      go : (ns : List Node) → s.after ≡ ns → row d (first ns) ≡ ns
      go [] is = refl
      go (n ∷ ns) is =
          let t : Spot = record { before = s.before ++ s.self ∷ []; self = n; after = ns; parent = s.parent; nesting = s.nesting } in
          ap row_of (next_found h s t e (rw is refl))

  pub earlier_next : (h : NodeHandle) (s : Spot) (n : Node) (ns : List Node) → found d h ≡ Some s → s.after ≡ n ∷ ns → earlier d (Some (handle_in n)) ≡ s.before ++ s.self ∷ []
  earlier_next h s n ns e is =
      let t : Spot = record { before = s.before ++ s.self ∷ []; self = n; after = ns; parent = s.parent; nesting = s.nesting } in
      ap earlier_of (next_found h s t e (rw is refl))

  -- the row that a node's first child begins
  pub row_inner : (h : NodeHandle) (s : Spot) → found d h ≡ Some s → row d (first (listed (within (block_in s.self)))) ≡ listed (within (block_in s.self))
  row_inner h s e = go (listed (within (block_in s.self))) refl
    where
      go : (ns : List Node) → listed (within (block_in s.self)) ≡ ns → row d (first ns) ≡ ns
      go [] is = refl
      go (n ∷ ns) is =
          let t : Spot = record { before = []; self = n; after = ns; parent = Some (handle_in s.self); nesting = suc s.nesting } in
          ap row_of (inner_found h s t e (rw is refl))

  pub earlier_inner : (h : NodeHandle) (s : Spot) → found d h ≡ Some s → earlier d (first (listed (within (block_in s.self)))) ≡ []
  earlier_inner h s e = go (listed (within (block_in s.self))) refl
    where
      go : (ns : List Node) → listed (within (block_in s.self)) ≡ ns → earlier d (first ns) ≡ []
      go [] is = refl
      go (n ∷ ns) is =
          let t : Spot = record { before = []; self = n; after = ns; parent = Some (handle_in s.self); nesting = suc s.nesting } in
          ap earlier_of (inner_found h s t e (rw is refl))

  -- the row of the document
  pub row_top : row d (first_node d) ≡ listed d
  row_top = go (listed d) refl
    where
      go : (ns : List Node) → listed d ≡ ns → row d (first ns) ≡ ns
      go [] is = refl
      go (n ∷ ns) is = ap row_of (top_found (record { before = []; self = n; after = ns; parent = None; nesting = 1 }) (rw is refl))

  pub earlier_top : earlier d (first_node d) ≡ []
  earlier_top = go (listed d) refl
    where
      go : (ns : List Node) → listed d ≡ ns → earlier d (first ns) ≡ []
      go [] is = refl
      go (n ∷ ns) is = ap earlier_of (top_found (record { before = []; self = n; after = ns; parent = None; nesting = 1 }) (rw is refl))

  tells : Tells (held_by d) (all_spots d)
  tells s a = ap inner_of (stands s a)

  -- a node stands among the nodes of its holder, behind those before it and before those after it
  pub whole : (h : NodeHandle) (s : Spot) → found d h ≡ Some s → held_by d s.parent ≡ s.before ++ s.self ∷ s.after
  whole h s e = whole_all (held_by d) 1 None [] d tells refl s (among_found h s e)

  entry_stands : (s : EntrySpot) → Among s (all_entries d) → found_entry d s.self.handle ≡ Some s
  entry_stands s a = find_among entry_key find_entry (λ n. refl) (λ x xs n. refl) (all_entries d) law.entries_rise s a

  among_entry : (e : EntryHandle) (s : EntrySpot) → found_entry d e ≡ Some s → Among s (all_entries d)
  among_entry e s f = (find_sound entry_key find_entry (λ n. refl) (λ x xs n. refl) (all_entries d) e.number s f).0

  pub entry_handle : (e : EntryHandle) (s : EntrySpot) → found_entry d e ≡ Some s → s.self.handle ≡ e
  entry_handle e s f = ap (λ n. record { number = n }) (find_sound entry_key find_entry (λ n. refl) (λ x xs n. refl) (all_entries d) e.number s f).1

  -- the row that the next entry begins
  pub entry_row_next : (e : EntryHandle) (s : EntrySpot) → found_entry d e ≡ Some s → entry_row d (first_of s.after) ≡ s.after
  entry_row_next e s f = go s.after refl
    where
      go : (es : List Entry) → s.after ≡ es → entry_row d (first_of es) ≡ es
      go [] is = refl
      go (x ∷ es) is =
          let t : EntrySpot = record { self = x; after = es; node = s.node } in
          ap entry_row_of (entry_stands t (entry_next (all_spots d) s t (among_entry e s f) (rw is refl)))

  -- and the first entry of a node
  pub entry_row_first : (h : NodeHandle) (s : Spot) → found d h ≡ Some s → entry_row d (first_of (head_in s.self).entries) ≡ (head_in s.self).entries
  entry_row_first h s f = go (head_in s.self).entries refl
    where
      go : (es : List Entry) → (head_in s.self).entries ≡ es → entry_row d (first_of es) ≡ es
      go [] is = refl
      go (x ∷ es) is =
          let t : EntrySpot = record { self = x; after = es; node = handle_in s.self } in
          ap entry_row_of (entry_stands t (entry_first (all_spots d) s t (among_found h s f) (rw is refl)))

  -- the node of an entry, in which the entry stands behind some others
  pub record InNode (s : EntrySpot) : Type 0 where
    pub owner : Spot
    pub is : found d s.node ≡ Some owner
    pub before : List Entry
    pub split : (head_in owner.self).entries ≡ before ++ s.self ∷ s.after

  pub in_node : (e : EntryHandle) (s : EntrySpot) → found_entry d e ≡ Some s → InNode s
  in_node e s f =
      let o = owned (all_spots d) s (among_entry e s f) in
      record { owner = o.owner; is = ap (found d) o.is ∙ stands o.owner o.among; before = o.before; split = o.split }
