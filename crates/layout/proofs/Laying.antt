-- What is read from tables is laid out in them. Assumes nothing.
use Rattle.std.proofs.Common.{◌≡◌, ℕ, zero, suc, ◌+◌, ◌<◌, ◌≤◌, Bool, true, false, List, [], ◌∷◌, ◌++◌, length, get_or, take, drop, Some, Ok, Option, sym, refl, ap, ◌∙◌, subst, ⊎_elim, append_assoc, add-zero, add_assoc, zero-add, add-one, arith, length-append, length-drop}
use Rattle.std.specs.List.{AllByRecursion}
use Rattle.std.proofs.lemmas.List.{length-take-le}
use Rattle.std.proofs.ByRecursion.{All-append}
use Rattle.std.proofs.lemmas.Bool.{cases_lt}
use Rattle.tree.specs.declared.handle.NodeHandle.{NodeHandle}
use Rattle.tree.specs.Document.{Entry, Head, Node, Nodes, node, nil, cons, handle_in, head_in, is_block, listed}
use Rattle.tree.specs.Going.{Spot, spots, spots_in, entries_from, entries_of}
use Rattle.layout.specs.Rows as say
use Rattle.layout.specs.Rows.{Tables, head, picked}
use Rattle.layout.specs.Tables.{blank, row, next, line, block_of, rows}
use Rattle.layout.specs.Layout.{Says, row_says, rows_say, node_says, nodes_say, NodeParts}
use Rattle.layout.specs.declared.rows.NodeRow.{NodeRow}
use Rattle.layout.specs.declared.rows.EntryRow.{EntryRow}
use Rattle.layout.proofs.Steps.{Fit, opened, rows_none}

-- how many entries some nodes have
abbrev pub total : List Spot → ℕ
total [] = 0
total (s ∷ ss) = length (head_in s.self).entries + total ss

pub total_append : (xs ys : List Spot) → total (xs ++ ys) ≡ total xs + total ys
total_append [] ys = sym (zero-add (total ys))
total_append (x ∷ xs) ys = let e = total_append xs ys in omega arith

entries_from_length : (h : NodeHandle) (es : List Entry) → length (entries_from h es) ≡ length es
entries_from_length h [] = refl
entries_from_length h (e ∷ es) = ap suc (entries_from_length h es)

pub total_is : (ss : List Spot) → length (entries_of ss) ≡ total ss
total_is [] = refl
total_is (s ∷ ss) =
    let es = entries_from (handle_in s.self) (head_in s.self).entries in
    let l = length-append es (entries_of ss) in
    let e = entries_from_length (handle_in s.self) (head_in s.self).entries in
    let r = total_is ss in
    omega arith

pub say_append : (k : ℕ) (xs ys : List Spot) → nodes_say k (xs ++ ys) ≡ nodes_say k xs ++ nodes_say (k + total xs) ys
say_append k [] ys = ap (λ n. nodes_say n ys) (sym (add-zero k))
say_append k (x ∷ xs) ys =
    let c = length (head_in x.self).entries in
    ap (λ l. node_says k x ∷ l) (say_append (k + c) xs ys ∙ ap (λ n. nodes_say (k + c) xs ++ nodes_say n ys) (add_assoc k c (total xs)))

pub says_length : (t : Tables) (i : ℕ) (rs : List NodeRow) → length (rows_say t i rs) ≡ length rs
says_length t i [] = refl
says_length t i (r ∷ rs) = ap suc (says_length t (suc i) rs)

pub say_length : (k : ℕ) (ss : List Spot) → length (nodes_say k ss) ≡ length ss
say_length k [] = refl
say_length k (s ∷ ss) = ap suc (say_length (k + length (head_in s.self).entries) ss)

says_at : (t : Tables) (k i : ℕ) (rs : List NodeRow) → i < length rs → drop i (rows_say t k rs) ≡ row_says t (k + i) (get_or rs i blank) ∷ drop (suc i) (rows_say t k rs)
says_at t k i [] lt = absurd (omega arith)
says_at t k zero (r ∷ rs) lt = ap (λ n. row_says t n r ∷ rows_say t (suc k) rs) (sym (add-zero k))
says_at t k (suc i) (r ∷ rs) lt =
    let e : suc k + i ≡ k + suc i = omega arith in
    says_at t (suc k) i rs (omega arith) ∙ ap (λ n. row_says t n (get_or rs i blank) ∷ drop (suc i) (rows_say t (suc k) rs)) e

-- all that the node rows say
abbrev pub said : Tables → List Says
said t = rows_say t 0 t.nodes

pub said_at : (t : Tables) (i : ℕ) → i < length t.nodes → drop i (said t) ≡ row_says t i (row t i) ∷ drop (i + 1) (said t)
said_at t i lt = says_at t 0 i t.nodes lt ∙ (λ j. row_says t (zero-add i j) (row t i) ∷ drop (sym (add-one i) j) (said t))

pub line_after : (t : Tables) (i : ℕ) → line t (i + 1) ≡ (row t i).entries_start + (row t i).entries_count
line_after t i = ap (line t) (add-one i)

entries_length : (bs : List ℕ) (k : ℕ) (es : List EntryRow) → length (say.entries_from bs k es) ≡ length es
entries_length bs k [] = refl
entries_length bs k (e ∷ es) = ap suc (entries_length bs (suc k) es)

pub picked_length : (t : Tables) (start count : ℕ) → start + count ≤ length t.entries → length (picked t start count) ≡ count
picked_length t start count h =
    let l = length-drop start t.entries in
    entries_length t.text start (take count (drop start t.entries)) ∙ length-take-le count (drop start t.entries) (omega arith)

pub block_is : (b : Bool) (ns : Nodes) → is_block (block_of b ns) ≡ b
block_is true ns = refl
block_is false ns = refl

-- the nodes below a row, where a row without a block has none
pub below_is : (d : ℕ) (h : NodeHandle) (hd : Head) (b : Bool) (ns : Nodes) → (b ≡ false → ns ≡ nil) → spots_in d (node h hd (block_of b ns)) ≡ spots (suc d) (Some h) [] ns
unfolding spots
below_is d h hd true ns e = refl
below_is d h hd false ns e = ap (λ n. spots (suc d) (Some h) [] n) (sym (e refl))

pub spots_some : (d : ℕ) (p : Option NodeHandle) (before : List Node) (n : Node) (ns : Nodes) → spots d p before (cons n ns) ≡ record { before = before; self = n; after = listed ns; parent = p; nesting = d } ∷ (spots_in d n ++ spots d p (before ++ n ∷ []) ns)
unfolding spots
spots_some d p before n ns = refl

pub spots_none : (d : ℕ) (p : Option NodeHandle) (before : List Node) → spots d p before nil ≡ []
unfolding spots
spots_none d p before = refl

-- what the rows from i up to to lay out
pub record Lays (t : Tables) (i to : ℕ) (ss : List Spot) : Type 0 where
  pub says : drop i (said t) ≡ nodes_say (line t i) ss ++ drop to (said t)
  pub lines : line t to ≡ line t i + total ss
  pub count : i + length ss ≡ to
  pub nesting : AllByRecursion (λ s. s.nesting ≤ 32) ss
  pub parts : (k : ℕ) → i ≤ k → k < to → NodeParts t.text (row t k)
  pub there : line t i ≤ length t.entries → line t to ≤ length t.entries
  pub rooms : (k : ℕ) → i ≤ k → k < to → (row t k).entries_start + (row t k).entries_count ≤ length t.entries

pub empty_inside : (t : Tables) (f d i : ℕ) (inner : Nodes) → (row t i).below ≡ 0 → rows t f (suc d) (i + 1) (next t i) ≡ Ok inner → inner ≡ nil
empty_inside t f d i inner z e =
    let n = rows_none t f (suc d) (i + 1) (next t i) (omega arith) in
    let s : ◌≡◌ {A = Nodes} nil inner = let q = sym n ∙ e in cc in
    sym s

-- one row, with what its block and the rows behind it lay out
lays_row : (t : Tables) (d i to : ℕ) (p : Option NodeHandle) (before : List Node) (inner rest : Nodes) → i < to → to ≤ length t.nodes → Fit t d i to → ((row t i).block ≡ false → inner ≡ nil)
    → Lays t (i + 1) (next t i) (spots (suc d) (Some (record { number = i })) [] inner)
    → Lays t (next t i) to (spots d p (before ++ node (record { number = i }) (head t (row t i)) (block_of (row t i).block inner) ∷ []) rest)
    → Lays t i to (spots d p before (cons (node (record { number = i }) (head t (row t i)) (block_of (row t i).block inner)) rest))
lays_row t d i to p before inner rest lt within w bare a b =
    let r = row t i in
    let h : NodeHandle = record { number = i } in
    let n = node h (head t r) (block_of r.block inner) in
    let s : Spot = record { before = before; self = n; after = listed rest; parent = p; nesting = d } in
    let A = spots (suc d) (Some h) [] inner in
    let B = spots d p (before ++ n ∷ []) rest in
    let all : spots d p before (cons n rest) ≡ s ∷ (A ++ B) = spots_some d p before n rest ∙ ap (λ l. s ∷ (l ++ B)) (below_is d h (head t r) r.block inner bare) in
    let c = picked_length t r.entries_start r.entries_count w.there in
    let after = line_after t i in
    let e₁ = w.in_line in
    let e₂ : line t (i + 1) ≡ line t i + length (head t r).entries = omega arith in
    let e₃ : line t (next t i) ≡ line t i + length (head t r).entries + total A = omega (arith, a.lines) in
    let below : length (spots_in d n) ≡ r.below = ap length (below_is d h (head t r) r.block inner bare) ∙ omega (arith, a.count) in
    let same : row_says t i r ≡ node_says (line t i) s =
    λ j. record { handle = h; head = head t r; start = e₁ j; count = sym c j; block = sym (block_is r.block inner) j; below = sym below j } in
    let long = length-append A B in
    let sums = total_append A B in
    subst (Lays t i to) (sym all) (record {
      says =
          said_at t i (omega arith)
          ∙ (λ j. same j ∷ (a.says ∙ ap (λ l. nodes_say (line t (i + 1)) A ++ l) b.says) j)
          ∙ ap (λ k. node_says (line t i) s ∷ (nodes_say k A ++ (nodes_say (line t (next t i)) B ++ drop to (said t)))) e₂
          ∙ ap (λ k. node_says (line t i) s ∷ (nodes_say (line t i + length (head t r).entries) A ++ (nodes_say k B ++ drop to (said t)))) e₃
          ∙ ap (λ l. node_says (line t i) s ∷ l) (sym (append_assoc (nodes_say (line t i + length (head t r).entries) A) (nodes_say (line t i + length (head t r).entries + total A) B) (drop to (said t))))
          ∙ ap (λ l. node_says (line t i) s ∷ (l ++ drop to (said t))) (sym (say_append (line t i + length (head t r).entries) A B));
      lines = omega (arith, b.lines);
      count = omega (arith, a.count, b.count);
      nesting = (w.shallow, All-append _ A B a.nesting b.nesting);
      parts = λ k ge below-to. ⊎_elim
          (λ (first : k < i + 1). let e : i ≡ k = omega arith in subst (λ j. NodeParts t.text (row t j)) e (record { name = w.name; type = w.type }))
          (λ more. ⊎_elim
          (λ (in_block : k < next t i). a.parts k more in_block)
          (λ later. b.parts k later below-to)
          (cases_lt k (next t i)))
          (cases_lt k (i + 1));
      there = λ _. b.there (a.there (subst (λ m. m ≤ length t.entries) (sym after) w.there));
      rooms = λ k ge below-to. ⊎_elim
          (λ (first : k < i + 1). let e : i ≡ k = omega arith in subst (λ j. (row t j).entries_start + (row t j).entries_count ≤ length t.entries) e w.there)
          (λ more. ⊎_elim
          (λ (in_block : k < next t i). a.rooms k more in_block)
          (λ later. b.rooms k later below-to)
          (cases_lt k (next t i)))
          (cases_lt k (i + 1));
    })

-- no rows
lays_none : (t : Tables) (f d i to : ℕ) (p : Option NodeHandle) (before : List Node) (ns : Nodes) → i ≤ to → to ≤ i → rows t f d i to ≡ Ok ns → Lays t i to (spots d p before ns)
lays_none t f d i to p before ns le ge e =
    let same : i ≡ to = omega arith in
    let none : ns ≡ nil = let q = sym (rows_none t f d i to ge) ∙ e in let s : ◌≡◌ {A = Nodes} nil ns = cc in sym s in
    let bare : spots d p before ns ≡ [] = ap (spots d p before) none ∙ spots_none d p before in
    subst (Lays t i to) (sym bare) (record {
      says = ap (λ k. drop k (said t)) same;
      lines = ap (line t) (sym same) ∙ sym (add-zero (line t i));
      count = add-zero i ∙ same;
      nesting = tt;
      parts = λ k a b. absurd (omega arith);
      there = λ h. subst (λ k. line t k ≤ length t.entries) same h;
      rooms = λ k a b. absurd (omega arith);
    })

pub lays : (t : Tables) (f d i to : ℕ) (p : Option NodeHandle) (before : List Node) (ns : Nodes) → i ≤ to → to ≤ length t.nodes → to ≤ i + f → rows t f d i to ≡ Ok ns → Lays t i to (spots d p before ns)
lays t zero d i to p before ns le within enough e = lays_none t zero d i to p before ns le (omega arith) e
lays t (suc f) d i to p before ns le within enough e = ⊎_elim
    (λ lt.
    let o = opened t f d i to ns lt enough e in
    let u = o.fits.inside in
    let v = o.inner_long in
    let w = o.rest_long in
    subst (λ m. Lays t i to (spots d p before m)) o.is
    (lays_row t d i to p before o.inner o.rest lt within o.fits (λ b. empty_inside t f d i o.inner (o.fits.bare b) o.inner_is)
    (lays t f (suc d) (i + 1) (next t i) (Some (record { number = i })) [] o.inner (omega arith) (omega arith) (omega arith) o.inner_is)
    (lays t f d (next t i) to p _ o.rest (omega arith) within (omega arith) o.rest_is)))
    (λ ge. lays_none t (suc f) d i to p before ns le ge e)
    (cases_lt i to)
