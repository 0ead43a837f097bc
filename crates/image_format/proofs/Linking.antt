-- The links of a document, made as its bytes are read. Assumes nothing.
use Rattle.std.proofs.Common.{◌≡◌, ℕ, zero, suc, ◌+◌, ◌<◌, ◌≤◌, true, false, cond, eqb, ltb, ◌⊎◌, List, [], ◌∷◌, ◌++◌, length, Some, None, Ok, Err, Option, Result, sym, refl, ap, ◌∙◌, subst, inl, inr, ⊎_elim, append_assoc, append-nil, add-one, arith}
use Rattle.std.proofs.lemmas.Bool.{cond-true, cond-false, eqb-false, eq-eqb, ne_eqb, lt-ltb, le-ltb, cases_Bool, cases_lt, false≢true}
use Rattle.tree.specs.declared.handle.NodeHandle.{NodeHandle}
use Rattle.tree.specs.declared.handle.EntryHandle.{EntryHandle}
use Rattle.tree.specs.Document.{Entry, Node, node, Block, block, no_block, Nodes, nil, cons, handle_in, head_in, listed}
use Rattle.tree.specs.Going.{Spot, spots, spots_of, entries_from, entries_of, first, first_in, first_of}
use Rattle.tree.specs.Outcome.{and_then, over}
use Rattle.index.specs.declared.keyed.Keyed.{Keyed}
use Rattle.index.specs.declared.link.NodeLink.{NodeLink}
use Rattle.index.specs.declared.link.EntryLink.{EntryLink}
use Rattle.index.proofs.Linked.{links_append, entry_links_append}
use Rattle.index.specs.Links.{link, links, entry_links, links_of, entry_links_of}
use Rattle.records.specs.declared.fault.RecordFault.{RecordFault}
use Rattle.records.specs.Records.{none, cut}
use Rattle.records.proofs.Cutting.{none_length, cut_size}
use Rattle.image_format.specs.Reading.{Place, Part, Read, located, placed, part, part_of, spanned, perhaps, ended, next, value, entry, entries, is_entry, document, block_at, fore, Front, front, node_at, nodes, start, image}
use Rattle.image_format.proofs.Basics.{err_ok, ok_ok, then_ok, then_is, holds, over_is}
use Rattle.image_format.proofs.Accepted.{ended_is}
use Rattle.image_format.proofs.Runs.{keep, keep_all}
use Rattle.image_format.proofs.Passing.{Aside, aside, behind}

-- the links of nodes that parent holds, and of the nodes in their blocks
abbrev mutual
  pub node_links : Option NodeHandle → Nodes → List (Keyed NodeLink)
  node_links parent nil = []
  node_links parent (cons n ns) = node_links_in parent n (first (listed ns)) ++ node_links parent ns

  pub node_links_in : Option NodeHandle → Node → Option NodeHandle → List (Keyed NodeLink)
  node_links_in parent (node h head b) next = record { key = h.number; value = record { parent = parent; next = next; block = first_in b; entry = first_of head.entries } } ∷ node_links_block (Some h) b

  pub node_links_block : Option NodeHandle → Block → List (Keyed NodeLink)
  node_links_block parent no_block = []
  node_links_block parent (block ns) = node_links parent ns

-- and of their entries
abbrev mutual
  pub entry_rows : Nodes → List (Keyed EntryLink)
  entry_rows nil = []
  entry_rows (cons n ns) = entry_rows_in n ++ entry_rows ns

  pub entry_rows_in : Node → List (Keyed EntryLink)
  entry_rows_in (node h head b) = entry_links (entries_from h head.entries) ++ entry_rows_block b

  pub entry_rows_block : Block → List (Keyed EntryLink)
  entry_rows_block no_block = []
  entry_rows_block (block ns) = entry_rows ns

mutual
  unfolding spots

  links_are : (d : ℕ) (p : Option NodeHandle) (before : List Node) (ns : Nodes) → links (spots d p before ns) ≡ node_links p ns
  links_are d p before nil = refl
  links_are d p before (cons n ns) = links_node d p before n ns (links_are d p (before ++ n ∷ []) ns)

  links_node : (d : ℕ) (p : Option NodeHandle) (before : List Node) (n : Node) (ns : Nodes) → links (spots d p (before ++ n ∷ []) ns) ≡ node_links p ns → links (spots d p before (cons n ns)) ≡ node_links p (cons n ns)
  links_node d p before (node h head b) ns rest =
      let s : Spot = record { before = before; self = node h head b; after = listed ns; parent = p; nesting = d } in
      ap (λ l. record { key = h.number; value = link s } ∷ l)
      (links_append (spots_of (suc d) (Some h) b) (spots d p (before ++ node h head b ∷ []) ns) ∙ (λ i. links_block (suc d) (Some h) b i ++ rest i))

  links_block : (d : ℕ) (p : Option NodeHandle) (b : Block) → links (spots_of d p b) ≡ node_links_block p b
  links_block d p no_block = refl
  links_block d p (block ns) = links_are d p [] ns

pub all_links : (doc : Nodes) → node_links None doc ≡ links_of doc
all_links doc = sym (links_are 1 None [] doc)

entries_append : (xs ys : List Spot) → entry_links (entries_of (xs ++ ys)) ≡ entry_links (entries_of xs) ++ entry_links (entries_of ys)
entries_append [] ys = refl
entries_append (x ∷ xs) ys =
    let es = entries_from (handle_in x.self) (head_in x.self).entries in
    entry_links_append es (entries_of (xs ++ ys)) ∙ ap (λ l. entry_links es ++ l) (entries_append xs ys)
    ∙ sym (append_assoc (entry_links es) (entry_links (entries_of xs)) (entry_links (entries_of ys)))
    ∙ ap (λ l. l ++ entry_links (entries_of ys)) (sym (entry_links_append es (entries_of xs)))

mutual
  unfolding spots

  entries_are : (d : ℕ) (p : Option NodeHandle) (before : List Node) (ns : Nodes) → entry_links (entries_of (spots d p before ns)) ≡ entry_rows ns
  entries_are d p before nil = refl
  entries_are d p before (cons n ns) = entries_node d p before n ns (entries_are d p (before ++ n ∷ []) ns)

  entries_node : (d : ℕ) (p : Option NodeHandle) (before : List Node) (n : Node) (ns : Nodes) → entry_links (entries_of (spots d p (before ++ n ∷ []) ns)) ≡ entry_rows ns → entry_links (entries_of (spots d p before (cons n ns))) ≡ entry_rows (cons n ns)
  entries_node d p before (node h head b) ns rest =
      let es = entries_from h head.entries in
      let A = spots_of (suc d) (Some h) b in
      let B = spots d p (before ++ node h head b ∷ []) ns in
      entry_links_append es (entries_of (A ++ B))
      ∙ ap (λ l. entry_links es ++ l) (entries_append A B ∙ (λ i. entries_block (suc d) (Some h) b i ++ rest i))
      ∙ sym (append_assoc (entry_links es) (entry_rows_block b) (entry_rows ns))

  entries_block : (d : ℕ) (p : Option NodeHandle) (b : Block) → entry_links (entries_of (spots_of d p b)) ≡ entry_rows_block b
  entries_block d p no_block = refl
  entries_block d p (block ns) = entries_are d p [] ns

pub all_entry_links : (doc : Nodes) → entry_rows doc ≡ entry_links_of doc
all_entry_links doc = sym (entries_are 1 None [] doc)

-- links of nodes, and links of entries
abbrev pub Both : Type 0
Both = List (Keyed NodeLink) × List (Keyed EntryLink)

-- with those of nodes behind them
abbrev pub onto : Option NodeHandle → Both → Nodes → Both
onto parent x ns = (x.0 ++ node_links parent ns, x.1 ++ entry_rows ns)

abbrev pub onto_block : Option NodeHandle → Both → Block → Both
onto_block parent x b = (x.0 ++ node_links_block parent b, x.1 ++ entry_rows_block b)

abbrev pub onto_entries : NodeHandle → List (Keyed EntryLink) → List Entry × Place → List (Keyed EntryLink) × Place
onto_entries h ws x = (ws ++ entry_links (entries_from h x.0), x.1)

-- the nodes of nesting d at p, behind the links x, come to r, whatever bounds their count
abbrev pub Fills : Option NodeHandle → Both → ℕ → Place → Read Both → Type 0
Fills parent x d p r = (f : ℕ) → length p.bytes ≤ f → r ≡ over (onto parent x) (nodes f d p)

abbrev pub FillsBlock : Option NodeHandle → Both → ℕ → Place → Read Both → Type 0
FillsBlock parent x d p r = (f : ℕ) → length p.bytes ≤ f + 6 → r ≡ over (onto_block parent x) (block_at (nodes f d) p)

abbrev pub FillsEntries : NodeHandle → List (Keyed EntryLink) → Place → Read (List (Keyed EntryLink) × Place) → Type 0
FillsEntries h ws p r = (f : ℕ) → length p.bytes ≤ f → r ≡ over (onto_entries h ws) (entries f p)

over_ok : {X Z : Type 0} (g : X → Z) (m : Read X) (z : Z) → Ok z ≡ over g m → (x : X) × (m ≡ Ok x) × (z ≡ g x)
over_ok g (Ok x) z e = (x, refl, ok_ok e)
over_ok g (Err d) z e = err_ok d z (sym e)

over_err : {X Z : Type 0} (g : X → Z) (m : Read X) (d : RecordFault) → Err d ≡ over g m → m ≡ Err d
over_err g (Ok x) d e = err_ok d (g x) e
over_err g (Err c) d e = let same : c ≡ d = cc in ap Err same

read_cases : {X : Type 0} (m : Read X) → ((x : X) × (m ≡ Ok x)) ⊎ ((e : RecordFault) × (m ≡ Err e))
read_cases (Ok x) = inl (x, refl)
read_cases (Err e) = inr (e, refl)

then_no : {X Y : Type 0} (m : Read X) (f : X → Read Y) (e : RecordFault) → m ≡ Err e → and_then m f ≡ Err e
then_no m f e h = ap (λ m. and_then m f) h

-- some entry is there, so some bytes are
room_in : (xs : List ℕ) (at : ℕ) → is_entry (next (record { at = at; bytes = xs })) ≡ true → 0 < length xs
room_in [] at e = absurd (false≢true e)
room_in (x ∷ xs) at e = omega arith

-- the first of the entries at p
abbrev pub first_entry_at : Place → Option EntryHandle
first_entry_at p = cond (is_entry (next p)) (Some (record { number = p.at })) None

entry_handle : (p : Place) (e : Entry) (q : Place) → entry p ≡ Ok (e, q) → e.handle ≡ record { number = p.at }
unfolding entry
entry_handle p e q h =
    let a = then_ok (part p) _ (e, q) h in
    let b = then_ok (spanned p a.0.body) _ (e, q) a.2 in
    let c = then_ok (perhaps (eqb a.0.kind 6) 3 b.0.1) _ (e, q) b.2 in
    let d = then_ok (perhaps (eqb (next c.0.1) 4) 4 c.0.1) _ (e, q) c.2 in
    let f = then_ok (value d.0.1) _ (e, q) d.2 in
    let g = then_ok (ended f.0.1) _ (e, q) f.2 in
    ap (λ (x : Entry × Place). x.0.handle) (sym (ok_ok g.2))

first_entry_is : (f : ℕ) (p : Place) (es : List Entry) (q : Place) → length p.bytes ≤ f → entries f p ≡ Ok (es, q) → first_of es ≡ first_entry_at p
unfolding entries
first_entry_is zero p es q l e = ⊎_elim
    (λ is. let r = room_in p.bytes p.at is in absurd (omega arith))
    (λ isnt. ap (λ (x : List Entry × Place). first_of x.0) (sym (ok_ok e)) ∙ sym (cond-false _ _ _ isnt))
    (cases_Bool (is_entry (next p)))
first_entry_is (suc f) p es q l e = ⊎_elim
    (λ is.
    let a = then_ok (entry p) _ (es, q) (rw is at e) in
    let b = then_ok (entries f a.0.1) _ (es, q) a.2 in
    ap (λ (x : List Entry × Place). first_of x.0) (sym (ok_ok b.2)) ∙ ap Some (entry_handle p a.0.0 a.0.1 a.1) ∙ sym (cond-true _ _ _ is))
    (λ isnt. ap (λ (x : List Entry × Place). first_of x.0) (sym (ok_ok (rw isnt at e))) ∙ sym (cond-false _ _ _ isnt))
    (cases_Bool (is_entry (next p)))

pub entries_end : (h : NodeHandle) (ws : List (Keyed EntryLink)) (p : Place) → is_entry (next p) ≡ false → FillsEntries h ws p (Ok (ws, p))
unfolding entries
entries_end h ws p e zero l = ap (λ w. Ok (w, p)) (sym (append-nil ws))
entries_end h ws p e (suc f) l = rw e (ap (λ w. Ok (w, p)) (sym (append-nil ws)))

pub entries_err : (h : NodeHandle) (ws : List (Keyed EntryLink)) (p : Place) (e : RecordFault) → is_entry (next p) ≡ true → Err e ≡ over behind (entry p) → FillsEntries h ws p (Err e)
unfolding entries
entries_err h ws p e is k zero l = let room = room_in p.bytes p.at is in absurd (omega arith)
entries_err h ws p e is k (suc f) l = rw is (ap (λ m. over (onto_entries h ws) (and_then m (λ x. and_then (entries f x.1) (λ es. Ok (x.0 ∷ es.0, es.1))))) (sym (over_err behind (entry p) e k)))

pub entries_on : (h : NodeHandle) (ws vs : List (Keyed EntryLink)) (p q : Place) (r : Read (List (Keyed EntryLink) × Place)) → is_entry (next p) ≡ true → Ok q ≡ over behind (entry p) → length q.bytes < length p.bytes
    → vs ≡ ws ++ record { key = p.at; value = record { node = h; next = first_entry_at q } } ∷ [] → FillsEntries h vs q r → FillsEntries h ws p r
unfolding entries
entries_on h ws vs p q r is k less e more zero l = absurd (omega arith)
entries_on h ws vs p q r is k less e more (suc f) l =
    let o = over_ok behind (entry p) q k in
    let x = o.0 in
    let same : x.1 ≡ q = sym o.2 in
    let handle = entry_handle p x.0 x.1 o.1 in
    rw is (more f (omega arith) ∙ ⊎_elim
    (λ (ok : (y : List Entry × Place) × (entries f q ≡ Ok y)).
    let y = ok.0 in
    let one = first_entry_is f q y.0 y.1 (omega arith) ok.1 in
    let row : record { key = p.at; value = record { node = h; next = first_entry_at q } } ≡ record { key = x.0.handle.number; value = record { node = h; next = first_of y.0 } } =
    λ i. record { key = ap (λ (z : EntryHandle). z.number) (sym handle) i; value = record { node = h; next = sym one i } } in
    ap (over (onto_entries h vs)) ok.1
    ∙ ap (λ w. Ok (w ++ entry_links (entries_from h y.0), y.1)) e
    ∙ ap (λ w. Ok (w, y.1)) (append_assoc ws _ (entry_links (entries_from h y.0)) ∙ ap (λ z. ws ++ z ∷ entry_links (entries_from h y.0)) row)
    ∙ sym (ap (λ m. over (onto_entries h ws) (and_then m (λ es. Ok (x.0 ∷ es.0, es.1)))) (ap (entries f) same ∙ ok.1)))
    (λ (bad : (c : RecordFault) × (entries f q ≡ Err c)).
    ap (over (onto_entries h vs)) bad.1 ∙ sym (ap (λ m. over (onto_entries h ws) (and_then m (λ es. Ok (x.0 ∷ es.0, es.1)))) (ap (entries f) same ∙ bad.1)))
    (read_cases (entries f q))
    ∙ ap (λ m. over (onto_entries h ws) (and_then m (λ x. and_then (entries f x.1) (λ es. Ok (x.0 ∷ es.0, es.1))))) (sym o.1))

-- the first of the nodes at p, and what the block at p is
abbrev pub first_at : Place → Option NodeHandle
first_at p = cond (eqb (length p.bytes) 0) None (Some (record { number = p.at }))

abbrev pub block_first_at : Place → Option (Option NodeHandle)
block_first_at p = cond (eqb (length p.bytes) 0) None (Some (cond (ltb 6 (length p.bytes)) (Some (record { number = p.at + 6 })) None))

-- the link of the node at `at`, whose entries are at es, whose block may stand at rest, and behind which is after
abbrev pub link_at : Option NodeHandle → ℕ → Place → Place → Place → Keyed NodeLink
link_at parent at es rest after = record { key = at; value = record { parent = parent; next = first_at after; block = block_first_at rest; entry = first_entry_at es } }

first_is : (f d : ℕ) (p : Place) (ns : Nodes) → length p.bytes ≤ f → nodes f d p ≡ Ok ns → first (listed ns) ≡ first_at p
unfolding nodes node_at
first_is zero d p ns l e = ap (λ ns. first (listed ns)) (sym (ok_ok e)) ∙ sym (cond-true _ _ _ (eq-eqb (length p.bytes) 0 (omega arith)))
first_is (suc f) d p ns l e = ⊎_elim
    (λ is. ap (λ ns. first (listed ns)) (sym (ok_ok (rw is at e))) ∙ sym (cond-true _ _ _ (sym (none_length p.bytes) ∙ is)))
    (λ isnt.
    let h = then_ok (node_at d (nodes f (suc d)) p) _ ns (rw isnt at e) in
    let x = then_ok (front d p) _ h.0 h.1 in
    let b = then_ok (block_at (nodes f (suc d)) x.0.rest) _ h.0 x.2 in
    let t = then_ok (nodes f d h.0.1) _ ns h.2 in
    ap (λ ns. first (listed ns)) (sym (ok_ok t.2)) ∙ ap (λ (y : Node × Place). Some (handle_in y.0)) (sym (ok_ok b.2)) ∙ sym (cond-false _ _ _ (sym (none_length p.bytes) ∙ isnt)))
    (cases_Bool (none p.bytes))

located_ok : {X : Type 0} (p : Place) (m : Result X _) (x : X) → located p m ≡ Ok x → m ≡ Ok x
located_ok p (Ok y) x e = ap Ok (ok_ok e)
located_ok p (Err c) x e = err_ok _ x e

part_size : (p : Place) (r : Part) → part p ≡ Ok r → (length r.body.bytes + length r.after.bytes + 6 ≡ length p.bytes) × (r.body.at ≡ p.at + 6)
unfolding part
part_size p r e =
    let o = over_is (placed p) (located p (cut p.bytes)) r e in
    let size = cut_size p.bytes o.0 (located_ok p (cut p.bytes) o.0 o.1) in
    subst (λ (r : Part). (length r.body.bytes + length r.after.bytes + 6 ≡ length p.bytes) × (r.body.at ≡ p.at + 6)) o.2 (size, refl)

-- what is known of the block at p
block_known : (f d : ℕ) (p : Place) (b : Block) → length p.bytes ≤ f + 6 → block_at (nodes f d) p ≡ Ok b → first_in b ≡ block_first_at p
unfolding document part_of
block_known f d p b l e = ⊎_elim
    (λ is. ap first_in (sym (ok_ok (rw is at e))) ∙ sym (cond-true _ _ _ (sym (none_length p.bytes) ∙ is)))
    (λ isnt.
    let h = then_ok (document (nodes f d) p) _ b (rw isnt at e) in
    let k = then_ok (part_of 1 p) _ h.0 h.1 in
    let q = then_ok (part p) _ k.0 k.1 in
    let s = holds (eqb q.0.kind 1) _ _ k.0 q.2 in
    let size = subst (λ (r : Part). (length r.body.bytes + length r.after.bytes + 6 ≡ length p.bytes) × (r.body.at ≡ p.at + 6)) (ok_ok s.1) (part_size p q.0 q.1) in
    let g = then_ok (nodes f d k.0.body) _ h.0 k.2 in
    let t = then_ok (ended k.0.after) _ h.0 g.2 in
    let last = ap length (ended_is k.0.after t.0 t.1) in
    let sum = size.0 in
    let one = first_is f d k.0.body g.0 (omega arith) g.1 in
    let same : first_at k.0.body ≡ cond (ltb 6 (length p.bytes)) (Some (record { number = p.at + 6 })) None = ⊎_elim
    (λ lt. cond-false _ _ _ (ne_eqb (length k.0.body.bytes) 0 (λ z. omega arith)) ∙ ap (λ n. Some (record { number = n })) size.1 ∙ sym (cond-true _ _ _ (lt-ltb 6 (length p.bytes) lt)))
    (λ ge. cond-true _ _ _ (eq-eqb (length k.0.body.bytes) 0 (omega arith)) ∙ sym (cond-false _ _ _ (le-ltb 6 (length p.bytes) ge)))
    (cases_lt 6 (length p.bytes)) in
    ap first_in (sym (ok_ok h.2)) ∙ ap (λ ns. Some (first (listed ns))) (sym (ok_ok t.2)) ∙ ap Some (one ∙ same) ∙ sym (cond-false _ _ _ (sym (none_length p.bytes) ∙ isnt)))
    (cases_Bool (none p.bytes))

pub filled_end : (parent : Option NodeHandle) (x : Both) (d : ℕ) (p : Place) → true ≡ eqb (length p.bytes) 0 → Fills parent x d p (Ok x)
unfolding nodes
filled_end parent x d p is zero l = λ i. Ok (sym (append-nil x.0) i, sym (append-nil x.1) i)
filled_end parent x d p is (suc f) l = (λ i. Ok (sym (append-nil x.0) i, sym (append-nil x.1) i)) ∙ ap (over (onto parent x)) (sym (cond-true _ _ _ (none_length p.bytes ∙ sym is)))

module _ (parent : Option NodeHandle) (x : Both) (d : ℕ) (p : Place) (isnt : false ≡ eqb (length p.bytes) 0) where
  abbrev on : ℕ → Node × Place → Read Nodes
  on f n = and_then (nodes f d n.1) (λ ns. Ok (cons n.0 ns))

  by_turn : (r : Read Both) → ((f : ℕ) → length p.bytes ≤ suc f → r ≡ over (onto parent x) (and_then (node_at d (nodes f (suc d)) p) (on f))) → Fills parent x d p r
  unfolding nodes
  by_turn r h zero l = let room = eqb-false (length p.bytes) 0 (sym isnt) in absurd (room (omega arith))
  by_turn r h (suc f) l = h f l ∙ ap (over (onto parent x)) (sym (cond-false _ _ _ (none_length p.bytes ∙ sym isnt)))

  -- a fault before the entries
  pub filled_fore : (c : RecordFault) → Err c ≡ over aside (fore d p) → Fills parent x d p (Err c)
  unfolding node_at front
  filled_fore c h = by_turn (Err c) (λ f l. ap (λ m. over (onto parent x) (and_then m (on f))) (sym (then_no (front d p) _ c (then_no (fore d p) _ c (over_err aside (fore d p) c h)))))

  module _ (y : Aside) (h : Ok y ≡ over aside (fore d p)) where
    -- a fault in the entries
    pub filled_entries : (c : RecordFault) (ws : List (Keyed EntryLink)) → FillsEntries (record { number = p.at }) ws y.rest (Err c) → Fills parent x d p (Err c)
    unfolding node_at front
    filled_entries c ws k = by_turn (Err c) (λ f l.
        let o = over_ok aside (fore d p) y h in
        let e = over_err _ (entries (length y.rest.bytes) y.rest) c (k (length y.rest.bytes) (omega arith)) in
        let e' = subst (λ (q : Aside). entries (length q.rest.bytes) q.rest ≡ Err c) o.2 e in
        ap (λ m. over (onto parent x) (and_then m (on f))) (sym (then_no (front d p) _ c (then_is (fore d p) _ o.0 _ o.1 (then_no (entries (length o.0.rest.bytes) o.0.rest) _ c e')))))

    module _ (vs : List (Keyed EntryLink)) (rest : Place) (k : FillsEntries (record { number = p.at }) x.1 y.rest (Ok (vs, rest))) where
      abbrev pub with_link : Both
      with_link = (x.0 ++ link_at parent p.at y.rest rest y.after ∷ [], vs)

      -- the front of the node, as it is read
      record Fronted : Type 0 where
        front_read : Front
        is : front d p ≡ Ok front_read
        rest_is : front_read.rest ≡ rest
        after_is : front_read.after ≡ y.after
        entries_are_linked : vs ≡ x.1 ++ entry_links (entries_from (record { number = p.at }) front_read.head.entries)
        first_entry : first_of front_read.head.entries ≡ first_entry_at y.rest

      fronted : Fronted
      unfolding front
      fronted =
          let o = over_ok aside (fore d p) y h in
          let b = over_ok _ (entries (length y.rest.bytes) y.rest) (vs, rest) (k (length y.rest.bytes) (omega arith)) in
          let es = b.0 in
          let e' = subst (λ (q : Aside). entries (length q.rest.bytes) q.rest ≡ Ok es) o.2 b.1 in
          record {
            front_read = record { head = record { name = o.0.name; type = o.0.type; span = o.0.span; entries = es.0 }; rest = es.1; after = o.0.after };
            is = then_is (fore d p) _ o.0 _ o.1 (then_is (entries (length o.0.rest.bytes) o.0.rest) _ es _ e' refl);
            rest_is = sym (ap (λ (z : List (Keyed EntryLink) × Place). z.1) b.2);
            after_is = ap (λ (q : Aside). q.after) (sym o.2);
            entries_are_linked = ap (λ (z : List (Keyed EntryLink) × Place). z.0) b.2;
            first_entry = first_entry_is (length y.rest.bytes) y.rest es.0 es.1 (omega arith) b.1;
          }

      -- a fault in the block
      pub filled_block : (c : RecordFault) → length rest.bytes + 6 ≤ length p.bytes → FillsBlock (Some (record { number = p.at })) with_link (d + 1) rest (Err c) → Fills parent x d p (Err c)
      unfolding node_at
      filled_block c less q = by_turn (Err c) (λ f l.
          let fr = fronted in
          let e = over_err _ (block_at (nodes f (d + 1)) rest) c (q f (omega arith)) in
          let e' : block_at (nodes f (suc d)) fr.front_read.rest ≡ Err c = subst (λ (z : Place). block_at (nodes f (suc d)) z ≡ Err c) (sym fr.rest_is) (subst (λ m. block_at (nodes f m) rest ≡ Err c) (add-one d) e) in
          ap (λ m. over (onto parent x) (and_then m (on f))) (sym (then_is (front d p) _ fr.front_read _ fr.is (then_no (block_at (nodes f (suc d)) fr.front_read.rest) _ c e'))))

      -- no fault yet
      pub filled_on : (z : Both) (r : Read Both) → length rest.bytes + 6 ≤ length p.bytes → length y.after.bytes < length p.bytes
          → FillsBlock (Some (record { number = p.at })) with_link (d + 1) rest (Ok z) → Fills parent z d y.after r → Fills parent x d p r
      unfolding node_at
      filled_on z r less lesser q more = by_turn r (λ f l.
          let fr = fronted in
          let head = fr.front_read.head in
          let b = over_ok _ (block_at (nodes f (d + 1)) rest) z (q f (omega arith)) in
          let e' : block_at (nodes f (suc d)) fr.front_read.rest ≡ Ok b.0 = subst (λ (z : Place). block_at (nodes f (suc d)) z ≡ Ok b.0) (sym fr.rest_is) (subst (λ m. block_at (nodes f m) rest ≡ Ok b.0) (add-one d) b.1) in
          let known = block_known f (d + 1) rest b.0 (omega arith) b.1 in
          let n : Node = node (record { number = p.at }) head b.0 in
          let whole : node_at d (nodes f (suc d)) p ≡ Ok (n, y.after) =
          then_is (front d p) _ fr.front_read _ fr.is (then_is (block_at (nodes f (suc d)) fr.front_read.rest) _ b.0 _ e' (ap (λ (z : Place). Ok (n, z)) fr.after_is)) in
          more f (omega arith)
          ∙ ⊎_elim
          (λ (ok : (ns : Nodes) × (nodes f d y.after ≡ Ok ns)).
          let ns = ok.0 in
          let one = first_is f d y.after ns (omega arith) ok.1 in
          let row : link_at parent p.at y.rest rest y.after ≡ record { key = p.at; value = record { parent = parent; next = first (listed ns); block = first_in b.0; entry = first_of head.entries } } =
          sym (λ i. record { key = p.at; value = record { parent = parent; next = one i; block = known i; entry = fr.first_entry i } }) in
          let inner = node_links_block (Some (record { number = p.at })) b.0 in
          let es = entry_links (entries_from (record { number = p.at }) head.entries) in
          let left : z.0 ++ node_links parent ns ≡ x.0 ++ node_links parent (cons n ns) =
          ap (λ (w : Both). w.0 ++ node_links parent ns) b.2
          ∙ append_assoc (x.0 ++ link_at parent p.at y.rest rest y.after ∷ []) inner (node_links parent ns)
          ∙ append_assoc x.0 (link_at parent p.at y.rest rest y.after ∷ []) (inner ++ node_links parent ns)
          ∙ ap (λ w. x.0 ++ w ∷ (inner ++ node_links parent ns)) row in
          let right : z.1 ++ entry_rows ns ≡ x.1 ++ entry_rows (cons n ns) =
          ap (λ (w : Both). w.1 ++ entry_rows ns) b.2
          ∙ append_assoc vs (entry_rows_block b.0) (entry_rows ns)
          ∙ ap (λ w. w ++ (entry_rows_block b.0 ++ entry_rows ns)) fr.entries_are_linked
          ∙ append_assoc x.1 es (entry_rows_block b.0 ++ entry_rows ns)
          ∙ ap (λ w. x.1 ++ w) (sym (append_assoc es (entry_rows_block b.0) (entry_rows ns))) in
          ap (over (onto parent z)) ok.1
          ∙ (λ i. Ok (left i, right i))
          ∙ ap (λ m. over (onto parent x) (and_then m (λ ns. Ok (cons n ns)))) (sym ok.1))
          (λ (bad : (c : RecordFault) × (nodes f d y.after ≡ Err c)).
          ap (over (onto parent z)) bad.1 ∙ ap (λ m. over (onto parent x) (and_then m (λ ns. Ok (cons n ns)))) (sym bad.1))
          (read_cases (nodes f d y.after))
          ∙ ap (λ m. over (onto parent x) (and_then m (on f))) (sym whole))

pub no_block_filled : (parent : Option NodeHandle) (x : Both) (d : ℕ) (p : Place) → true ≡ eqb (length p.bytes) 0 → FillsBlock parent x d p (Ok x)
no_block_filled parent x d p is f l = (λ i. Ok (sym (append-nil x.0) i, sym (append-nil x.1) i)) ∙ ap (over (onto_block parent x)) (sym (cond-true _ _ _ (none_length p.bytes ∙ sym is)))

abbrev pub pass_document : {W : Type 0} → (Nodes → W) → ℕ → ℕ → Place → Read W
pass_document h f d p = and_then (part_of 1 p) (λ r. and_then (over h (nodes f d r.body)) (λ c. and_then (ended r.after) (λ _. Ok c)))

document_passes : {W : Type 0} (h : Nodes → W) (f d : ℕ) (p : Place) → over h (document (nodes f d) p) ≡ pass_document h f d p
unfolding document
document_passes h f d p =
    keep_all h (part_of 1 p) _ _ (λ r. keep h h (nodes f d r.body) _ _ (λ ns. keep_all h (ended r.after) _ _ (λ _. refl)))

block_same : (parent : Option NodeHandle) (x : Both) (m : Read Nodes) → over (onto parent x) m ≡ over (onto_block parent x) (and_then m (λ ns. Ok (block ns)))
block_same parent x (Ok ns) = refl
block_same parent x (Err e) = refl

pub block_filled : (parent : Option NodeHandle) (x : Both) (d : ℕ) (p : Place) (r : Read Both) → false ≡ eqb (length p.bytes) 0 → ((f : ℕ) → length p.bytes ≤ f + 6 → r ≡ pass_document (onto parent x) f d p) → FillsBlock parent x d p r
block_filled parent x d p r isnt h f l =
    h f l ∙ sym (document_passes (onto parent x) f d p) ∙ block_same parent x (document (nodes f d) p)
    ∙ ap (over (onto_block parent x)) (sym (cond-false _ _ _ (none_length p.bytes ∙ sym isnt)))

pub image_filled : (bs : List ℕ) (x : Both) (r : Read Both) → length bs ≤ 1048576 → r ≡ pass_document (onto None x) (length bs) 1 (start bs) → r ≡ over (onto None x) (image bs)
image_filled bs x r small h =
    h ∙ sym (document_passes (onto None x) (length bs) 1 (start bs)) ∙ ap (over (onto None x)) (sym (cond-false _ _ _ (le-ltb 1048576 (length bs) small)))
