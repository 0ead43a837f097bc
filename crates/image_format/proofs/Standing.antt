-- What a writing says of the handles, and that it is within the limits. Assumes nothing.
use Rattle.std.proofs.Common.{◌≡◌, ℕ, zero, suc, ◌+◌, ◌<◌, ◌≤◌, List, [], ◌∷◌, ◌++◌, length, get_or, Some, None, Option, sym, refl, ap, ◌∙◌, subst, append_assoc, arith, length-append}
use Rattle.std.specs.List.{AllByRecursion}
use Rattle.tree.specs.declared.handle.NodeHandle.{NodeHandle}
use Rattle.tree.specs.declared.handle.EntryHandle.{EntryHandle}
use Rattle.tree.specs.Document.{Entry, Node, node, Block, block, no_block, Nodes, nil, cons, handle_in}
use Rattle.tree.specs.Going.{Spot, EntrySpot, spots, spots_of, all_spots, all_entries, entries_from, entries_at, entries_of}
use Rattle.tree.specs.Limits.{node_numbers, entry_numbers}
use Rattle.tree.specs.Numbers.{Rising}
use Rattle.records.proofs.Cutting.{record_long}
use Rattle.image_format.specs.Writing.{Stand, BlockStands, EntriesStand, span_of, perhaps_of, value_of, entry_kind, entry_of, entries_of as entry_bytes, front_of, node_of, nodes_of, block_of}

-- numbers from low on, below high, each above the one before
abbrev pub Climbs : ℕ → ℕ → List ℕ → Type 0
Climbs low high [] = low ≤ high
Climbs low high (n ∷ ns) = (low ≤ n) × Climbs (suc n) high ns

climbs_append : (a b c : ℕ) (xs ys : List ℕ) → Climbs a b xs → Climbs b c ys → Climbs a c (xs ++ ys)
climbs_append a b c [] [] h k = omega arith
climbs_append a b c [] (y ∷ ys) h k = (omega arith, k.1)
climbs_append a b c (x ∷ xs) ys h k = (h.0, climbs_append (suc x) b c xs ys h.1 k)

climbs_wider : (a a' b b' : ℕ) (xs : List ℕ) → a' ≤ a → b ≤ b' → Climbs a b xs → Climbs a' b' xs
climbs_wider a a' b b' [] l k h = omega arith
climbs_wider a a' b b' (x ∷ xs) l k h = (omega arith, climbs_wider (suc x) (suc x) b b' xs (omega arith) k h.1)

above : (xs : List ℕ) (a b k : ℕ) → Climbs a b xs → k < length xs → a ≤ get_or xs k 0
above [] a b k c l = absurd (omega arith)
above (x ∷ xs) a b zero c l = c.0
above (x ∷ xs) a b (suc k) c l = let h = above xs (suc x) b k c.1 (omega arith) in let g = c.0 in omega arith

pub climbs_rising : (a b : ℕ) (xs : List ℕ) → Climbs a b xs → Rising xs
climbs_rising a b [] c i j lt le = absurd (omega arith)
climbs_rising a b (x ∷ xs) c i zero lt le = absurd (omega arith)
climbs_rising a b (x ∷ xs) c zero (suc j) lt le = above xs (suc x) b j c.1 (omega arith)
climbs_rising a b (x ∷ xs) c (suc i) (suc j) lt le = climbs_rising (suc x) b xs c.1 i j (omega arith) (omega arith)

pub climbs_below : (a b : ℕ) (xs : List ℕ) → Climbs a b xs → AllByRecursion (λ n. n < b) xs
climbs_below a b [] c = tt
climbs_below a b (x ∷ xs) c = let h = ends (suc x) b xs c.1 in (omega arith, climbs_below (suc x) b xs c.1)
  where
    ends : (a b : ℕ) (xs : List ℕ) → Climbs a b xs → a ≤ b
    ends a b [] c = c
    ends a b (x ∷ xs) c = let h = ends (suc x) b xs c.1 in let g = c.0 in omega arith

numbers_append : (xs ys : List Spot) → node_numbers (xs ++ ys) ≡ node_numbers xs ++ node_numbers ys
numbers_append [] ys = refl
numbers_append (x ∷ xs) ys = ap (λ l. (handle_in x.self).number ∷ l) (numbers_append xs ys)

mutual
  unfolding spots

  climbs : (d : ℕ) (p : Option NodeHandle) (before : List Node) (ns : Nodes) (at : ℕ) → Stand at ns → Climbs at (at + length (nodes_of ns)) (node_numbers (spots d p before ns))
  climbs d p before nil at s = omega arith
  climbs d p before (cons n ns) at s = climbs_node d p before n ns at s (climbs d p (before ++ n ∷ []) ns (at + length (node_of n)) s.1)

  climbs_node : (d : ℕ) (p : Option NodeHandle) (before : List Node) (n : Node) (ns : Nodes) (at : ℕ) → Stand at (cons n ns) → Climbs (at + length (node_of n)) (at + length (node_of n) + length (nodes_of ns)) (node_numbers (spots d p (before ++ n ∷ []) ns)) → Climbs at (at + length (nodes_of (cons n ns))) (node_numbers (spots d p before (cons n ns)))
  climbs_node d p before (node h head b) ns at s rest =
      let n = node h head b in
      let es = entry_bytes head.entries in
      let long = record_long 2 (front_of head ++ (es ++ block_of b)) in
      let one = length-append (front_of head) (es ++ block_of b) in
      let two = length-append es (block_of b) in
      let three = length-append (node_of n) (nodes_of ns) in
      let same : h.number ≡ at = ap (λ (x : NodeHandle). x.number) s.0.0 in
      let pos = at + 6 + length (front_of head) + length es in
      let inner = climbs_wider pos (suc h.number) (pos + length (block_of b)) (at + length (node_of n)) (node_numbers (spots_of (suc d) (Some h) b)) (omega arith) (omega arith) (climbs_block (suc d) (Some h) b pos s.0.2) in
      let all = climbs_append (suc h.number) (at + length (node_of n)) (at + length (nodes_of (cons n ns))) (node_numbers (spots_of (suc d) (Some h) b)) (node_numbers (spots d p (before ++ n ∷ []) ns)) inner
      (climbs_wider (at + length (node_of n)) (at + length (node_of n)) (at + length (node_of n) + length (nodes_of ns)) _ _ (omega arith) (omega arith) rest) in
      (omega arith, subst (Climbs (suc h.number) (at + length (nodes_of (cons n ns)))) (sym (numbers_append (spots_of (suc d) (Some h) b) (spots d p (before ++ n ∷ []) ns))) all)

  climbs_block : (d : ℕ) (p : Option NodeHandle) (b : Block) (at : ℕ) → BlockStands at b → Climbs at (at + length (block_of b)) (node_numbers (spots_of d p b))
  climbs_block d p no_block at s = omega arith
  climbs_block d p (block ns) at s =
      let l = record_long 1 (nodes_of ns) in
      climbs_wider (at + 6) at (at + 6 + length (nodes_of ns)) _ _ (omega arith) (omega arith) (climbs d p [] ns (at + 6) s)

pub nodes_climb : (doc : Nodes) → Stand 6 doc → Climbs 6 (6 + length (nodes_of doc)) (node_numbers (all_spots doc))
nodes_climb doc s = climbs 1 None [] doc 6 s

entry_long : (e : Entry) → 6 ≤ length (entry_of e)
unfolding entry_of
entry_long e = let l = record_long (entry_kind e.name) (span_of e.span ++ (perhaps_of 3 e.name ++ (perhaps_of 4 e.type ++ value_of e.value))) in omega arith

climbs_entries : (h : NodeHandle) (es : List Entry) (at : ℕ) → EntriesStand at es → Climbs at (at + length (entry_bytes es)) (entry_numbers (entries_from h es))
climbs_entries h [] at s = omega arith
climbs_entries h (e ∷ es) at s =
    let l = length-append (entry_of e) (entry_bytes es) in
    let m = entry_long e in
    let same : e.handle.number ≡ at = ap (λ (x : EntryHandle). x.number) s.0 in
    (omega arith, climbs_wider (at + length (entry_of e)) (suc e.handle.number) (at + length (entry_of e) + length (entry_bytes es)) _ _ (omega arith) (omega arith) (climbs_entries h es (at + length (entry_of e)) s.1))

entry_numbers_append : (xs ys : List EntrySpot) → entry_numbers (xs ++ ys) ≡ entry_numbers xs ++ entry_numbers ys
entry_numbers_append [] ys = refl
entry_numbers_append (x ∷ xs) ys = ap (λ l. x.self.handle.number ∷ l) (entry_numbers_append xs ys)

entries_of_append : (xs ys : List Spot) → entries_of (xs ++ ys) ≡ entries_of xs ++ entries_of ys
entries_of_append [] ys = refl
entries_of_append (x ∷ xs) ys = ap (λ l. entries_at x ++ l) (entries_of_append xs ys) ∙ sym (append_assoc (entries_at x) (entries_of xs) (entries_of ys))

mutual
  unfolding spots

  climb : (d : ℕ) (p : Option NodeHandle) (before : List Node) (ns : Nodes) (at : ℕ) → Stand at ns → Climbs at (at + length (nodes_of ns)) (entry_numbers (entries_of (spots d p before ns)))
  climb d p before nil at s = omega arith
  climb d p before (cons n ns) at s = climb_node d p before n ns at s (climb d p (before ++ n ∷ []) ns (at + length (node_of n)) s.1)

  climb_node : (d : ℕ) (p : Option NodeHandle) (before : List Node) (n : Node) (ns : Nodes) (at : ℕ) → Stand at (cons n ns) → Climbs (at + length (node_of n)) (at + length (node_of n) + length (nodes_of ns)) (entry_numbers (entries_of (spots d p (before ++ n ∷ []) ns))) → Climbs at (at + length (nodes_of (cons n ns))) (entry_numbers (entries_of (spots d p before (cons n ns))))
  climb_node d p before (node h head b) ns at s rest =
      let n = node h head b in
      let es = entry_bytes head.entries in
      let long = record_long 2 (front_of head ++ (es ++ block_of b)) in
      let one = length-append (front_of head) (es ++ block_of b) in
      let two = length-append es (block_of b) in
      let three = length-append (node_of n) (nodes_of ns) in
      let from = at + 6 + length (front_of head) in
      let A = spots_of (suc d) (Some h) b in
      let B = spots d p (before ++ n ∷ []) ns in
      let mine = entries_from h head.entries in
      let inner = climb_block (suc d) (Some h) b (from + length es) s.0.2 in
      let behind = climbs_append (from + length es) (at + length (node_of n)) (at + length (nodes_of (cons n ns))) (entry_numbers (entries_of A)) (entry_numbers (entries_of B))
      (climbs_wider (from + length es) (from + length es) (from + length es + length (block_of b)) _ _ (omega arith) (omega arith) inner)
      (climbs_wider (at + length (node_of n)) (at + length (node_of n)) (at + length (node_of n) + length (nodes_of ns)) _ _ (omega arith) (omega arith) rest) in
      let all = climbs_append at (from + length es) (at + length (nodes_of (cons n ns))) (entry_numbers mine) (entry_numbers (entries_of A) ++ entry_numbers (entries_of B))
      (climbs_wider from at (from + length es) (from + length es) _ (omega arith) (omega arith) (climbs_entries h head.entries from s.0.1)) behind in
      subst (Climbs at (at + length (nodes_of (cons n ns)))) (sym (entry_numbers_append mine (entries_of (A ++ B)) ∙ ap (λ l. entry_numbers mine ++ l) (ap entry_numbers (entries_of_append A B) ∙ entry_numbers_append (entries_of A) (entries_of B)))) all

  climb_block : (d : ℕ) (p : Option NodeHandle) (b : Block) (at : ℕ) → BlockStands at b → Climbs at (at + length (block_of b)) (entry_numbers (entries_of (spots_of d p b)))
  climb_block d p no_block at s = omega arith
  climb_block d p (block ns) at s =
      let l = record_long 1 (nodes_of ns) in
      climbs_wider (at + 6) at (at + 6 + length (nodes_of ns)) _ _ (omega arith) (omega arith) (climb d p [] ns (at + 6) s)

pub entries_climb : (doc : Nodes) → Stand 6 doc → Climbs 6 (6 + length (nodes_of doc)) (entry_numbers (all_entries doc))
entries_climb doc s = climb 1 None [] doc 6 s

pub climbs_few : (a b : ℕ) (xs : List ℕ) → Climbs a b xs → a + length xs ≤ b
climbs_few a b [] c = omega arith
climbs_few a b (x ∷ xs) c = let h = climbs_few (suc x) b xs c.1 in let g = c.0 in omega arith
