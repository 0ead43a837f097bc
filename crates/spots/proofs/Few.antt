-- A document has at most 2^32 nodes and at most 2^32 entries, since their numbers rise below 2^32. Assumes nothing.
use Rattle.std.proofs.Common.{◌≡◌, ℕ, zero, suc, ◌^◌, ◌<◌, ◌≤◌, List, [], ◌∷◌, map, length, get_or, Some, refl, ap, inl, inr, arith, length-append}
use Rattle.std.specs.List.{AllByRecursion}
use Rattle.std.proofs.lemmas.List.{length-map}
use Rattle.tree.specs.declared.handle.NodeHandle.{NodeHandle}
use Rattle.tree.specs.Document.{Entry, Nodes, handle_in, head_in}
use Rattle.tree.specs.Going.{Spot, all_spots, entries_from, entries_at, entries_of, all_entries, found}
use Rattle.tree.specs.Limits.{Lawful, NodeFits, EntryFits, node_numbers, entry_numbers}
use Rattle.tree.specs.Numbers.{Rising}
use Rattle.spots.proofs.Finding.{Among}
use Rattle.spots.proofs.Rows.{among_found}

-- rising numbers are at least their positions
at_least : (ns : List ℕ) → Rising ns → (i : ℕ) → i < length ns → i ≤ get_or ns i 0
at_least ns r zero l = omega arith
at_least ns r (suc i) l = let h = at_least ns r i (omega arith) in let g = r i (suc i) (omega arith) l in omega arith

rising_few : (ns : List ℕ) → Rising ns → ((i : ℕ) → i < length ns → get_or ns i 0 < 2 ^ 32) → length ns ≤ 2 ^ 32
rising_few ns r below = go (length ns) refl
  where
    go : (k : ℕ) → length ns ≡ k → length ns ≤ 2 ^ 32
    go zero e = omega arith
    go (suc k) e = let a = at_least ns r k (omega arith) in let b = below k (omega arith) in omega arith

read_all : {X : Type 0} (P : X → Type 0) (key : X → ℕ) (n : ℕ) → ((x : X) → P x → key x < n) → (xs : List X) → AllByRecursion P xs → (i : ℕ) → i < length (map key xs) → get_or (map key xs) i 0 < n
read_all P key n h [] a i l = absurd (omega arith)
read_all P key n h (x ∷ xs) a zero l = h x a.0
read_all P key n h (x ∷ xs) a (suc i) l = read_all P key n h xs a.1 i (omega arith)

pub few_nodes : (d : Nodes) → Lawful d → length (all_spots d) ≤ 2 ^ 32
few_nodes d law =
    let l = length-map (all_spots d) (λ s. (handle_in s.self).number) in
    let f = rising_few (node_numbers (all_spots d)) law.nodes_rise (read_all NodeFits (λ s. (handle_in s.self).number) (2 ^ 32) (λ s k. k.handle) (all_spots d) law.nodes_fit) in
    omega arith

pub few_entries : (d : Nodes) → Lawful d → length (all_entries d) ≤ 2 ^ 32
few_entries d law =
    let l = length-map (all_entries d) (λ s. s.self.handle.number) in
    let f = rising_few (entry_numbers (all_entries d)) law.entries_rise (read_all (λ s. EntryFits s.self) (λ s. s.self.handle.number) (2 ^ 32) (λ s k. k.handle) (all_entries d) law.entries_fit) in
    omega arith

entries_long : (h : NodeHandle) (es : List Entry) → length (entries_from h es) ≡ length es
entries_long h [] = refl
entries_long h (e ∷ es) = ap suc (entries_long h es)

entries_within : (ss : List Spot) (s : Spot) → Among s ss → length (head_in s.self).entries ≤ length (entries_of ss)
entries_within [] s a = absurd a
entries_within (x ∷ ss) s (inl e) =
    let l = length-append (entries_at x) (entries_of ss) in
    let k = entries_long (handle_in x.self) (head_in x.self).entries in
    let m = ap (λ (z : Spot). length (head_in z.self).entries) e in
    omega arith
entries_within (x ∷ ss) s (inr a) = let l = length-append (entries_at x) (entries_of ss) in let k = entries_within ss s a in omega arith

-- a node has at most 2^32 entries
pub node_few : (d : Nodes) → Lawful d → (h : NodeHandle) (s : Spot) → found d h ≡ Some s → length (head_in s.self).entries ≤ 2 ^ 32
node_few d law h s e = let k = entries_within (all_spots d) s (among_found d law h s e) in let f = few_entries d law in omega arith
