-- How the links of a laid out document are made, row by row. Assumes nothing.
use Rattle.std.proofs.Common.{◌≡◌, ℕ, zero, suc, ◌+◌, ◌-◌, ◌<◌, ◌≤◌, Bool, true, false, cond, ltb, List, [], ◌∷◌, ◌++◌, length, get_or, take, drop, Some, None, Ok, Option, sym, refl, ap, ◌∙◌, ⊎_elim, append_assoc, append-nil, add-one, arith, length-drop}
use Rattle.std.proofs.lemmas.List.{drop_more, drop_all, length-take-le}
use Rattle.std.proofs.lemmas.Bool.{cases_lt, lt-ltb, le-ltb, cond-true, cond-false}
use Rattle.tree.specs.declared.handle.NodeHandle.{NodeHandle}
use Rattle.tree.specs.declared.handle.EntryHandle.{EntryHandle}
use Rattle.tree.specs.Document.{Node, Nodes, node, nil, head_in, listed}
use Rattle.tree.specs.Going.{Spot, EntrySpot, spots, all_spots, all_entries, entries_from, entries_of, first, first_in, first_of}
use Rattle.index.specs.declared.keyed.Keyed.{Keyed}
use Rattle.index.specs.declared.link.NodeLink.{NodeLink}
use Rattle.index.specs.declared.link.EntryLink.{EntryLink}
use Rattle.index.proofs.Linked.{links_append, entry_links_append}
use Rattle.index.specs.Links.{link, links, entry_links}
use Rattle.layout.specs.Rows as say
use Rattle.layout.specs.Rows.{Tables, head, picked, entry}
use Rattle.layout.specs.Tables.{blank, row, blank_entry, next, block_of, rows}
use Rattle.layout.specs.Layout.{Says, row_says, rows_say, node_says, nodes_say, Laid}
use Rattle.layout.specs.declared.rows.NodeRow.{NodeRow}
use Rattle.layout.specs.declared.rows.EntryRow.{EntryRow}
use Rattle.layout.proofs.Steps.{Fit, opened, rows_none}
use Rattle.layout.proofs.Laying.{below_is, spots_some, spots_none, empty_inside}

abbrev pub node_number : ℕ → NodeHandle
node_number i = record { number = i }

abbrev pub entry_number : ℕ → EntryHandle
entry_number k = record { number = k }

-- the first of the rows from i up to to
abbrev pub first_row : ℕ → ℕ → Option NodeHandle
first_row i to = cond (ltb i to) (Some (node_number i)) None

abbrev pub first_entry_row : ℕ → ℕ → Option EntryHandle
first_entry_row k to = cond (ltb k to) (Some (entry_number k)) None

-- the link of node row i, which p holds, in a block whose rows end before to
abbrev pub row_link : Tables → ℕ → ℕ → Option NodeHandle → Keyed NodeLink
row_link t i to p = record {
  key = i;
  value = record {
    parent = p;
    next = first_row (next t i) to;
    block = cond (row t i).block (Some (first_row (i + 1) (next t i))) None;
    entry = first_entry_row (row t i).entries_start ((row t i).entries_start + (row t i).entries_count);
  };
}

first_is : (t : Tables) (f d i to : ℕ) (ns : Nodes) → to ≤ i + f → rows t f d i to ≡ Ok ns → first (listed ns) ≡ first_row i to
first_is t f d i to ns enough e = ⊎_elim
    (λ lt. some f enough e lt)
    (λ ge.
    let q = sym (rows_none t f d i to ge) ∙ e in
    let s : ◌≡◌ {A = Nodes} nil ns = cc in
    ap (λ m. first (listed m)) (sym s) ∙ sym (cond-false (ltb i to) _ _ (le-ltb i to ge)))
    (cases_lt i to)
  where
    some : (f : ℕ) → to ≤ i + f → rows t f d i to ≡ Ok ns → i < to → first (listed ns) ≡ first_row i to
    some zero enough e lt = absurd (omega arith)
    some (suc f) enough e lt = ap (λ m. first (listed m)) (sym (opened t f d i to ns lt enough e).is) ∙ sym (cond-true (ltb i to) _ _ (lt-ltb i to lt))

block_first : (b : Bool) (ns : Nodes) (o : Option NodeHandle) → first (listed ns) ≡ o → first_in (block_of b ns) ≡ cond b (Some o) None
block_first true ns o e = ap Some e
block_first false ns o e = refl

entry_first : (bs : List ℕ) (k : ℕ) (es : List EntryRow) → first_of (say.entries_from bs k es) ≡ first_entry_row k (k + length es)
entry_first bs k [] = sym (cond-false (ltb k (k + 0)) _ _ (le-ltb k (k + 0) (omega arith)))
entry_first bs k (e ∷ es) = sym (cond-true (ltb k (k + suc (length es))) _ _ (lt-ltb k _ (omega arith)))

pub picked_first : (t : Tables) (start count : ℕ) → start + count ≤ length t.entries → first_of (picked t start count) ≡ first_entry_row start (start + count)
picked_first t start count h =
    let l = length-drop start t.entries in
    let m = length-take-le count (drop start t.entries) (omega arith) in
    entry_first t.text start (take count (drop start t.entries)) ∙ ap (λ n. first_entry_row start (start + n)) m

-- with the links xs before, ys are there behind the rows from i up to to, which p holds
abbrev pub Fills : Tables → ℕ → ℕ → Option NodeHandle → List (Keyed NodeLink) → List (Keyed NodeLink) → Type 0
Fills t i to p xs ys = (d f : ℕ) (before : List Node) (ns : Nodes) → to ≤ i + f → rows t f d i to ≡ Ok ns → ys ≡ xs ++ links (spots d p before ns)

-- the rows from i up to to are sound
pub record Whole (t : Tables) (i to : ℕ) : Type 0 where
  pub nesting : ℕ
  pub fuel : ℕ
  pub nodes : Nodes
  pub enough : to ≤ i + fuel
  pub is : rows t fuel nesting i to ≡ Ok nodes

pub record Parts (t : Tables) (i to : ℕ) : Type 0 where
  pub nesting : ℕ
  pub fits : Fit t nesting i to
  pub inner : Whole t (i + 1) (next t i)
  pub rest : Whole t (next t i) to

pub parts_of : (t : Tables) (i to : ℕ) → i < to → Whole t i to → Parts t i to
parts_of t i to lt w = go w.fuel w.enough w.is
  where
    go : (f : ℕ) → to ≤ i + f → rows t f w.nesting i to ≡ Ok w.nodes → Parts t i to
    go zero enough e = absurd (omega arith)
    go (suc f) enough e =
        let o = opened t f w.nesting i to w.nodes lt enough e in
        record {
          nesting = w.nesting;
          fits = o.fits;
          inner = record { nesting = suc w.nesting; fuel = f; nodes = o.inner; enough = o.inner_long; is = o.inner_is };
          rest = record { nesting = w.nesting; fuel = f; nodes = o.rest; enough = o.rest_long; is = o.rest_is };
        }

pub fills_none : (t : Tables) (i to : ℕ) (p : Option NodeHandle) (xs : List (Keyed NodeLink)) → to ≤ i → Fills t i to p xs xs
fills_none t i to p xs ge d f before ns enough e =
    let q = sym (rows_none t f d i to ge) ∙ e in
    let s : ◌≡◌ {A = Nodes} nil ns = cc in
    sym (append-nil xs) ∙ ap (λ l. xs ++ links l) (sym (spots_none d p before)) ∙ ap (λ m. xs ++ links (spots d p before m)) s

pub fills_on : (t : Tables) (i to : ℕ) (p : Option NodeHandle) (xs one two ys : List (Keyed NodeLink)) → i < to → one ≡ xs ++ row_link t i to p ∷ []
    → Fills t (i + 1) (next t i) (Some (node_number i)) one two → Fills t (next t i) to p two ys → Fills t i to p xs ys
fills_on t i to p xs one two ys lt e₁ inner rest d zero before ns enough e = absurd (omega arith)
fills_on t i to p xs one two ys lt e₁ inner rest d (suc f) before ns enough e =
    let o = opened t f d i to ns lt enough e in
    let r = row t i in
    let hd = head t r in
    let n = node (node_number i) hd (block_of r.block o.inner) in
    let s : Spot = record { before = before; self = n; after = listed o.rest; parent = p; nesting = d } in
    let A = spots (suc d) (Some (node_number i)) [] o.inner in
    let B = spots d p (before ++ n ∷ []) o.rest in
    let all : spots d p before ns ≡ s ∷ (A ++ B) =
    ap (spots d p before) (sym o.is) ∙ spots_some d p before n o.rest
    ∙ ap (λ l. s ∷ (l ++ B)) (below_is d (node_number i) hd r.block o.inner (λ b. empty_inside t f d i o.inner (o.fits.bare b) o.inner_is)) in
    let q₁ = first_is t f d (next t i) to o.rest o.rest_long o.rest_is in
    let q₂ = block_first r.block o.inner _ (first_is t f (suc d) (i + 1) (next t i) o.inner o.inner_long o.inner_is) in
    let q₃ = picked_first t r.entries_start r.entries_count o.fits.there in
    let same : record { key = i; value = link s } ≡ row_link t i to p = λ j. record { key = i; value = record { parent = p; next = q₁ j; block = q₂ j; entry = q₃ j } } in
    rest d f (before ++ n ∷ []) o.rest o.rest_long o.rest_is
    ∙ ap (λ l. l ++ links B) (inner (suc d) f [] o.inner o.inner_long o.inner_is)
    ∙ ap (λ l. (l ++ links A) ++ links B) e₁
    ∙ simp append_assoc refl
    ∙ (λ j. xs ++ (sym same j ∷ sym (links_append A B) j))
    ∙ ap (λ l. xs ++ links l) (sym all)

-- the entries of the node rows rs, which are those from i on
abbrev pub rows_entries : Tables → ℕ → List NodeRow → List EntrySpot
rows_entries t i [] = []
rows_entries t i (r ∷ rs) = entries_from (node_number i) (picked t r.entries_start r.entries_count) ++ rows_entries t (suc i) rs

entries_are : (t : Tables) (i k : ℕ) (rs : List NodeRow) (ss : List Spot) → rows_say t i rs ≡ nodes_say k ss → rows_entries t i rs ≡ entries_of ss
entries_are t i k [] [] e = refl
entries_are t i k (r ∷ rs) [] e = absurd (let m = ap length e in omega arith)
entries_are t i k [] (s ∷ ss) e = absurd (let m = ap length e in omega arith)
entries_are t i k (r ∷ rs) (s ∷ ss) e =
    let one : row_says t i r ≡ node_says k s = cc in
    let tail : rows_say t (suc i) rs ≡ nodes_say (k + length (head_in s.self).entries) ss = cc in
    let h = ap (λ (x : Says). x.handle) one in
    let es = ap (λ (x : Says). x.head.entries) one in
    λ j. entries_from (h j) (es j) ++ entries_are t (suc i) (k + length (head_in s.self).entries) rs ss tail j

pub all_entries_are : (t : Tables) (doc : Nodes) → Laid t doc → rows_entries t 0 t.nodes ≡ all_entries doc
all_entries_are t doc l = entries_are t 0 0 t.nodes (all_spots doc) l.nodes

-- one node row more
pub rows_more : (t : Tables) (i : ℕ) (xs one : List (Keyed EntryLink)) → i < length t.nodes
    → one ≡ xs ++ entry_links (entries_from (node_number i) (picked t (row t i).entries_start (row t i).entries_count))
    → one ++ entry_links (rows_entries t (i + 1) (drop (i + 1) t.nodes)) ≡ xs ++ entry_links (rows_entries t i (drop i t.nodes))
rows_more t i xs one lt e =
    let A = entries_from (node_number i) (picked t (row t i).entries_start (row t i).entries_count) in
    let B = rows_entries t (i + 1) (drop (i + 1) t.nodes) in
    ap (λ l. l ++ entry_links B) e
    ∙ append_assoc xs (entry_links A) (entry_links B)
    ∙ ap (λ l. xs ++ l) (sym (entry_links_append A B))
    ∙ ap (λ n. xs ++ entry_links (A ++ rows_entries t n (drop (i + 1) t.nodes))) (add-one i)
    ∙ ap (λ l. xs ++ entry_links (rows_entries t i l)) (sym (drop_more t.nodes i blank lt))

pub rows_end : (t : Tables) (i : ℕ) (xs : List (Keyed EntryLink)) → length t.nodes ≤ i → xs ++ entry_links (rows_entries t i (drop i t.nodes)) ≡ xs
rows_end t i xs ge = ap (λ l. xs ++ entry_links (rows_entries t i l)) (drop_all i t.nodes ge) ∙ append-nil xs

-- one entry row more of a node's
pub picked_more : (t : Tables) (h : NodeHandle) (k to : ℕ) (xs one : List (Keyed EntryLink)) → k < to → to ≤ length t.entries
    → one ≡ xs ++ record { key = k; value = record { node = h; next = first_entry_row (k + 1) to } } ∷ []
    → one ++ entry_links (entries_from h (picked t (k + 1) (to - (k + 1)))) ≡ xs ++ entry_links (entries_from h (picked t k (to - k)))
picked_more t h k to xs one lt within e =
    let c = to - (k + 1) in
    let size : to - k ≡ suc c = omega arith in
    let E = entry t.text k (get_or t.entries k blank_entry) in
    let rest = picked t (k + 1) c in
    let front : picked t k (to - k) ≡ E ∷ rest =
    (λ j. say.entries_from t.text k (take (size j) (drop_more t.entries k blank_entry (omega arith) j)))
    ∙ ap (λ n. E ∷ say.entries_from t.text n (take c (drop (k + 1) t.entries))) (sym (add-one k)) in
    let sum : k + 1 + c ≡ to = omega arith in
    let after : first_of rest ≡ first_entry_row (k + 1) to = picked_first t (k + 1) c (omega arith) ∙ ap (first_entry_row (k + 1)) sum in
    let s : EntrySpot = record { self = E; after = rest; node = h } in
    ap (λ l. l ++ entry_links (entries_from h rest)) e
    ∙ append_assoc xs _ (entry_links (entries_from h rest))
    ∙ (λ j. xs ++ record { key = k; value = record { node = h; next = sym after j } } ∷ entry_links (entries_from h rest))
    ∙ ap (λ l. xs ++ entry_links (entries_from h l)) (sym front)

pub picked_end : (t : Tables) (h : NodeHandle) (k to : ℕ) (xs : List (Keyed EntryLink)) → to ≤ k → xs ++ entry_links (entries_from h (picked t k (to - k))) ≡ xs
picked_end t h k to xs ge =
    let z : to - k ≡ 0 = omega arith in
    ap (λ n. xs ++ entry_links (entries_from h (picked t k n))) z ∙ append-nil xs

-- each node row's entries are there
abbrev pub Rooms : Tables → Type 0
Rooms t = (i : ℕ) → i < length t.nodes → (row t i).entries_start + (row t i).entries_count ≤ length t.entries
