-- Where the nodes and entries of a laid out document stand in its tables. Assumes nothing.
use Rattle.std.proofs.Common.{◌≡◌, ℕ, zero, suc, ◌+◌, ◌<◌, ◌≤◌, List, [], ◌∷◌, ◌++◌, length, get_or, take, drop, sym, refl, ap, ◌∙◌, subst, add-zero, zero-add, arith, length-drop}
use Rattle.std.specs.List.{AllByRecursion}
use Rattle.std.proofs.lemmas.List.{get_or-take, get_or-drop}
use Rattle.std.proofs.ByRecursion.{All-append}
use Rattle.tree.specs.declared.handle.NodeHandle.{NodeHandle}
use Rattle.tree.specs.Document.{Entry, Nodes, handle_in, head_in}
use Rattle.tree.specs.Going.{Spot, EntrySpot, all_spots, entries_from, entries_at, entries_of}
use Rattle.tree.specs.Limits.{node_numbers, entry_numbers}
use Rattle.tree.specs.Numbers.{Rising}
use Rattle.layout.specs.Rows as say
use Rattle.layout.specs.Rows.{Tables, head, picked, entry}
use Rattle.layout.specs.Tables.{blank, row, blank_entry, entry_row}
use Rattle.layout.specs.Layout.{Says, row_says, rows_say, node_says, nodes_say, Laid}
use Rattle.layout.specs.declared.rows.NodeRow.{NodeRow}
use Rattle.layout.specs.declared.rows.EntryRow.{EntryRow}
use Rattle.layout.proofs.Laying.{total, total_is, say_length, says_length}

-- n, n + 1 and so on, m numbers
abbrev pub upto : ℕ → ℕ → List ℕ
upto n zero = []
upto n (suc m) = n ∷ upto (suc n) m

upto_length : (n m : ℕ) → length (upto n m) ≡ m
upto_length n zero = refl
upto_length n (suc m) = ap suc (upto_length (suc n) m)

upto_at : (n m k : ℕ) → k < m → get_or (upto n m) k 0 ≡ n + k
upto_at n zero k lt = absurd (omega arith)
upto_at n (suc m) zero lt = sym (add-zero n)
upto_at n (suc m) (suc k) lt = upto_at (suc n) m k (omega arith) ∙ omega arith

pub upto_rising : (m : ℕ) → Rising (upto 0 m)
upto_rising m i j lt le =
    let l = upto_length 0 m in
    let a = upto_at 0 m i (omega arith) in
    let b = upto_at 0 m j (omega arith) in
    omega arith

pub upto_append : (n a b : ℕ) → upto n a ++ upto (n + a) b ≡ upto n (a + b)
upto_append n zero b = (λ j. upto (add-zero n j) (sym (zero-add b) j))
upto_append n (suc a) b =
    let e : suc a + b ≡ suc (a + b) = omega arith in
    let f : n + suc a ≡ suc n + a = omega arith in
    ap (λ k. n ∷ (upto (suc n) a ++ upto k b)) f ∙ ap (λ l. n ∷ l) (upto_append (suc n) a b) ∙ ap (upto n) (sym e)

-- a node stands in the row of its number
pub record NodeStands (t : Tables) (s : Spot) : Type 0 where
  pub inside : (handle_in s.self).number < length t.nodes
  pub head : head_in s.self ≡ head t (row t (handle_in s.self).number)

-- and an entry in the row of its number
pub record EntryStands (t : Tables) (e : Entry) : Type 0 where
  pub inside : e.handle.number < length t.entries
  pub is : e ≡ entry t.text e.handle.number (entry_row t e.handle.number)

-- rs are the rows from i on
pub record Last (t : Tables) (i : ℕ) (rs : List NodeRow) : Type 0 where
  pub long : i + length rs ≡ length t.nodes
  pub at : (k : ℕ) → get_or rs k blank ≡ row t (i + k)

last_more : (t : Tables) (i : ℕ) (r : NodeRow) (rs : List NodeRow) → Last t i (r ∷ rs) → Last t (suc i) rs
last_more t i r rs l = let g = l.long in record {
  long = omega arith;
  at = λ k. let e : i + suc k ≡ suc i + k = omega arith in l.at (suc k) ∙ ap (row t) e;
}

nodes_stand : (t : Tables) (i k : ℕ) (rs : List NodeRow) (ss : List Spot) → Last t i rs → rows_say t i rs ≡ nodes_say k ss → AllByRecursion (NodeStands t) ss
nodes_stand t i k rs [] l e = tt
nodes_stand t i k [] (s ∷ ss) l e = absurd (let m = ap length e in omega arith)
nodes_stand t i k (r ∷ rs) (s ∷ ss) l e =
    let first : row_says t i r ≡ node_says k s = cc in
    let tail : rows_say t (suc i) rs ≡ nodes_say (k + length (head_in s.self).entries) ss = cc in
    let n : i ≡ (handle_in s.self).number = ap (λ (x : Says). x.handle.number) first in
    let g = l.long in
    let here = l.at 0 ∙ ap (row t) (add-zero i) in (
      record {
        inside = omega arith;
        head = sym (ap (λ (x : Says). x.head) first) ∙ ap (head t) (here ∙ ap (row t) n);
      },
      nodes_stand t (suc i) _ rs ss (last_more t i r rs l) tail,
    )

pub node_stands : (t : Tables) (doc : Nodes) → Laid t doc → AllByRecursion (NodeStands t) (all_spots doc)
node_stands t doc l = nodes_stand t 0 0 t.nodes (all_spots doc) (record { long = zero-add _; at = λ k. ap (row t) (sym (zero-add k)) }) l.nodes

-- es are entry rows from k on
pub record Cut (t : Tables) (k : ℕ) (es : List EntryRow) : Type 0 where
  pub long : k + length es ≤ length t.entries
  pub at : (j : ℕ) → j < length es → get_or es j blank_entry ≡ entry_row t (k + j)

entries_stand : (t : Tables) (h : NodeHandle) (k : ℕ) (es : List EntryRow) → Cut t k es → AllByRecursion (λ s. EntryStands t s.self) (entries_from h (say.entries_from t.text k es))
entries_stand t h k [] c = tt
entries_stand t h k (e ∷ es) c =
    let g = c.long in (
      record {
        inside = omega arith;
        is = ap (entry t.text k) (c.at 0 (omega arith) ∙ ap (entry_row t) (add-zero k));
      },
      entries_stand t h (suc k) es (record {
        long = omega arith;
        at = λ j lt. let f : k + suc j ≡ suc k + j = omega arith in c.at (suc j) (omega arith) ∙ ap (entry_row t) f;
      }),
    )

short_take : {X : Type 0} (c : ℕ) (xs : List X) → (length (take c xs) ≤ length xs) × (length (take c xs) ≤ c)
short_take zero xs = (omega arith, omega arith)
short_take (suc c) [] = (omega arith, omega arith)
short_take (suc c) (x ∷ xs) = let s = short_take c xs in let a = s.0 in let b = s.1 in (omega arith, omega arith)

cut : (t : Tables) (start count : ℕ) → start ≤ length t.entries → Cut t start (take count (drop start t.entries))
cut t start count le =
    let l = length-drop start t.entries in
    let m = short_take count (drop start t.entries) in
    let a = m.0 in
    let b = m.1 in
    record {
      long = omega arith;
      at = λ j lt. get_or-take count (drop start t.entries) j blank_entry (omega arith) ∙ get_or-drop start t.entries j blank_entry;
    }

entry_numbers_from : (bs : List ℕ) (h : NodeHandle) (k : ℕ) (es : List EntryRow) → entry_numbers (entries_from h (say.entries_from bs k es)) ≡ upto k (length (say.entries_from bs k es))
entry_numbers_from bs h k [] = refl
entry_numbers_from bs h k (e ∷ es) = ap (λ l. k ∷ l) (entry_numbers_from bs h (suc k) es)

numbers_append : (xs ys : List EntrySpot) → entry_numbers (xs ++ ys) ≡ entry_numbers xs ++ entry_numbers ys
numbers_append [] ys = refl
numbers_append (x ∷ xs) ys = ap (λ l. x.self.handle.number ∷ l) (numbers_append xs ys)

-- the entries of some nodes stand in their rows, and are numbered from k on
pub record EntriesStand (t : Tables) (k : ℕ) (ss : List Spot) : Type 0 where
  pub stand : AllByRecursion (λ s. EntryStands t s.self) (entries_of ss)
  pub numbers : entry_numbers (entries_of ss) ≡ upto k (total ss)

all_entries_stand : (t : Tables) (i k : ℕ) (rs : List NodeRow) (ss : List Spot) → k + total ss ≤ length t.entries → rows_say t i rs ≡ nodes_say k ss → EntriesStand t k ss
all_entries_stand t i k rs [] room e = record { stand = tt; numbers = refl }
all_entries_stand t i k [] (s ∷ ss) room e = absurd (let m = ap length e in omega arith)
all_entries_stand t i k (r ∷ rs) (s ∷ ss) room e =
    let h = handle_in s.self in
    let es = (head_in s.self).entries in
    let first : row_says t i r ≡ node_says k s = cc in
    let tail : rows_say t (suc i) rs ≡ nodes_say (k + length es) ss = cc in
    let start : r.entries_start ≡ k = ap (λ (x : Says). x.start) first in
    let is : picked t k r.entries_count ≡ es = ap (λ n. picked t n r.entries_count) (sym start) ∙ ap (λ (x : Says). x.head.entries) first in
    let more = all_entries_stand t (suc i) (k + length es) rs ss (omega arith) tail in
    let P : EntrySpot → Type 0 = λ x. EntryStands t x.self in
    let here = subst (λ l. AllByRecursion P (entries_from h l)) is (entries_stand t h k (take r.entries_count (drop k t.entries)) (cut t k r.entries_count (omega arith))) in
    let numbered = subst (λ l. entry_numbers (entries_from h l) ≡ upto k (length l)) is (entry_numbers_from t.text h k (take r.entries_count (drop k t.entries))) in
    record {
      stand = All-append P (entries_at s) (entries_of ss) here more.stand;
      numbers = numbers_append (entries_at s) (entries_of ss) ∙ (λ j. numbered j ++ more.numbers j) ∙ upto_append k (length es) (total ss);
    }

pub entry_stands : (t : Tables) (doc : Nodes) → Laid t doc → EntriesStand t 0 (all_spots doc)
entry_stands t doc l =
    let sums = sym (total_is (all_spots doc)) ∙ l.entries in
    all_entries_stand t 0 0 t.nodes (all_spots doc) (omega arith) l.nodes

node_numbers_are : (t : Tables) (i k : ℕ) (rs : List NodeRow) (ss : List Spot) → rows_say t i rs ≡ nodes_say k ss → node_numbers ss ≡ upto i (length rs)
node_numbers_are t i k [] [] e = refl
node_numbers_are t i k (r ∷ rs) [] e = absurd (let m = ap length e in omega arith)
node_numbers_are t i k [] (s ∷ ss) e = absurd (let m = ap length e in omega arith)
node_numbers_are t i k (r ∷ rs) (s ∷ ss) e =
    let first : row_says t i r ≡ node_says k s = cc in
    let tail : rows_say t (suc i) rs ≡ nodes_say (k + length (head_in s.self).entries) ss = cc in
    let n : i ≡ (handle_in s.self).number = ap (λ (x : Says). x.handle.number) first in
    λ j. sym n j ∷ node_numbers_are t (suc i) (k + length (head_in s.self).entries) rs ss tail j

pub node_numbered : (t : Tables) (doc : Nodes) → Laid t doc → node_numbers (all_spots doc) ≡ upto 0 (length t.nodes)
node_numbered t doc l = node_numbers_are t 0 0 t.nodes (all_spots doc) l.nodes

pub counted : (t : Tables) (doc : Nodes) → Laid t doc → length (all_spots doc) ≡ length t.nodes
counted t doc l = sym (say_length 0 (all_spots doc)) ∙ ap length (sym l.nodes) ∙ says_length t 0 t.nodes
