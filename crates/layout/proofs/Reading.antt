-- Reading and laying out are one another's inverse. Assumes nothing.
use Rattle.std.proofs.Common.{◌≡◌, ℕ, zero, suc, ◌+◌, ◌<◌, ◌≤◌, Bool, true, false, ltb, leb, List, [], ◌∷◌, ◌++◌, length, drop, Some, None, Ok, Err, Option, Result, sym, refl, ap, ◌∙◌, subst, ⊎_elim, append_assoc, append-nil, arith, length-append}
use Rattle.std.specs.List.{AllByRecursion}
use Rattle.std.proofs.lemmas.List.{drop_all, drop-drop, drop_at}
use Rattle.std.proofs.ByRecursion.{All-from_get_or, All-get_or}
use Rattle.std.proofs.lemmas.Bool.{cases_lt, leb-true, le-leb, ltb-true, lt-ltb, cond-true}
use Rattle.tree.specs.declared.handle.NodeHandle.{NodeHandle}
use Rattle.tree.specs.Document.{Head, Node, Block, block, no_block, Nodes, node, nil, cons, handle_in, head_in, block_in, is_block, listed}
use Rattle.tree.specs.Going.{Spot, spots, spots_in, all_spots}
use Rattle.tree.specs.Outcome.{and_then, over}
use Rattle.layout.specs.Rows.{Tables, head, perhaps_in_text, value_known}
use Rattle.tree.specs.Counts.{counts_of}
use Rattle.layout.specs.Tables.{blank, row, next, line, block_of, rows, judged, entry_cause, entry_rows, limited, read, checked, held, document}
use Rattle.layout.specs.Layout.{Says, row_says, node_says, nodes_say, NodeParts, EntryParts, Laid, Law, Unique, Exact, Made}
use Rattle.layout.specs.declared.rows.EntryRow.{EntryRow}
use Rattle.layout.specs.declared.fault.Table.{Table}
use Rattle.layout.specs.declared.fault.TableFault.{TableFault}
use Rattle.tree.specs.declared.counts.Counts.{Counts}
use Rattle.layout.proofs.LaidOut.{lays_out}
use Rattle.layout.proofs.Steps.{passed, no_cause, let_through, Fit, rows_none, closed}
use Rattle.layout.proofs.Laying.{total, total_append, total_is, say_append, says_length, say_length, said, said_at, line_after, spots_some, spots_none, lays}

-- what holds of sound entry rows from k on
pub record Sound (t : Tables) (k : ℕ) (es : List EntryRow) : Type 0 where
  pub parts : AllByRecursion (EntryParts t.text) es
  pub taken : 0 < length es → k + length es ≤ line t (length t.nodes)

entry_fit : (t : Tables) (k : ℕ) (e : EntryRow) → entry_cause t k e ≡ None → EntryParts t.text e × (k < line t (length t.nodes))
entry_fit t k e h =
    let p₁ = let_through (perhaps_in_text t.text e.name) _ _ h in
    let p₂ = let_through (perhaps_in_text t.text e.ty) _ _ p₁.1 in
    let p₃ = let_through (value_known t.text e.value) _ _ p₂.1 in
    let p₄ = let_through (ltb k (line t (length t.nodes))) _ _ p₃.1 in
    (record { name = p₁.0; type = p₂.0; value = p₃.0 }, ltb-true _ _ p₄.0)

sound_entries : (t : Tables) (k : ℕ) (es : List EntryRow) (x : Unit {0}) → entry_rows t k es ≡ Ok x → Sound t k es
sound_entries t k [] x h = record { parts = tt; taken = λ l. absurd (omega arith) }
sound_entries t k (e ∷ es) x h =
    let p = passed (judged Table.Entries k (entry_cause t k e)) (λ _. entry_rows t (suc k) es) x h in
    let one = entry_fit t k e (no_cause Table.Entries k _ _ p.was) in
    let more = sound_entries t (suc k) es x p.then in
    record {
      parts = (one.0, more.parts);
      taken = λ _. ⊎_elim
          (λ (some : 0 < length es). let l = more.taken some in omega arith)
          (λ none. let l = one.1 in omega arith)
          (cases_lt 0 (length es));
    }

within_limit : (table : Table) (most n : ℕ) (x : Unit {0}) → limited table most n ≡ Ok x → n ≤ most
within_limit table most n x e = leb-true n most (let_through (leb n most) _ _ (no_cause table 0 _ x e)).0

pub laid : (t : Tables) (doc : Nodes) → read t ≡ Ok doc → Laid t doc
laid t doc e =
    let n = length t.nodes in
    let p₁ = passed (limited Table.Nodes 65535 n) _ doc e in
    let p₂ = passed (rows t n 1 0 n) _ doc p₁.then in
    let p₃ = passed (limited Table.Entries 65535 (length t.entries)) _ doc p₂.then in
    let p₄ = passed (entry_rows t 0 t.entries) _ doc p₃.then in
    let p₅ = passed (limited Table.Text 1048576 (length t.text)) _ doc p₄.then in
    let same : p₂.first ≡ doc = let q = p₅.then in cc in
    let is : rows t n 1 0 n ≡ Ok doc = p₂.was ∙ ap Ok same in
    let l = lays t n 1 0 n None [] doc (omega arith) (omega arith) (omega arith) is in
    let s = sound_entries t 0 t.entries _ p₄.was in
    let there = l.there (omega arith) in
    let all : length t.entries ≤ line t n = ⊎_elim
    (λ (some : 0 < length t.entries). let q = s.taken some in omega arith)
    (λ none. omega arith)
    (cases_lt 0 (length t.entries)) in
    record {
      nodes = l.says ∙ ap (λ x. nodes_say 0 (all_spots doc) ++ x) (drop_all n (said t) (let q = says_length t 0 t.nodes in omega arith)) ∙ append-nil _;
      entries = total_is (all_spots doc) ∙ omega (arith, l.lines);
      node_parts = All-from_get_or (NodeParts t.text) t.nodes blank (λ k lt. l.parts k (omega arith) lt);
      entry_parts = s.parts;
      nesting = l.nesting;
      few_nodes = within_limit Table.Nodes 65535 n _ p₁.was;
      few_entries = within_limit Table.Entries 65535 (length t.entries) _ p₃.was;
      short_text = within_limit Table.Text 1048576 (length t.text) _ p₅.was;
    }

-- rows from i up to to that lay out nodes are read as these
pub record Holds (t : Tables) (d i to : ℕ) (ss : List Spot) : Type 0 where
  pub says : drop i (said t) ≡ nodes_say (line t i) ss ++ drop to (said t)
  pub count : i + length ss ≡ to
  pub within : to ≤ length t.nodes
  pub room : line t i + total ss ≤ length t.entries
  pub nesting : AllByRecursion (λ s. s.nesting ≤ 32) ss

all_left : {X : Type 0} (P : X → Type 0) (xs ys : List X) → AllByRecursion P (xs ++ ys) → AllByRecursion P xs
all_left P [] ys a = tt
all_left P (x ∷ xs) ys a = (a.0, all_left P xs ys a.1)

all_right : {X : Type 0} (P : X → Type 0) (xs ys : List X) → AllByRecursion P (xs ++ ys) → AllByRecursion P ys
all_right P [] ys a = a
all_right P (x ∷ xs) ys a = all_right P xs ys a.1

-- what the first of the rows says, and what those behind it do
pub record Split (t : Tables) (d i to : ℕ) (n : Node) (A B : List Spot) : Type 0 where
  pub less : i < to
  pub handle : record { number = i } ≡ handle_in n
  pub head : head t (row t i) ≡ head_in n
  pub block : (row t i).block ≡ is_block (block_in n)
  pub below : (row t i).below ≡ length A
  pub in_line : (row t i).entries_start ≡ line t i
  pub there : (row t i).entries_start + (row t i).entries_count ≤ length t.entries
  pub inside : next t i ≤ to
  pub shallow : d ≤ 32
  pub inner : Holds t (suc d) (i + 1) (next t i) A
  pub rest : line t (next t i) ≡ line t (i + 1) + total A → Holds t d (next t i) to B

split : (t : Tables) (d i to : ℕ) (s : Spot) (A B : List Spot) → s.nesting ≡ d → spots_in d s.self ≡ A → Holds t d i to (s ∷ (A ++ B)) → Split t d i to s.self A B
split t d i to s A B deep inner_is h =
    let r = row t i in
    let k = line t i in
    let c = length (head_in s.self).entries in
    let R = drop to (said t) in
    let long = length-append A B in
    let sums = total_append A B in
    let within = h.within in
    let count = h.count in
    let room = h.room in
    let both = sym (said_at t i (omega arith)) ∙ h.says in
    let first : row_says t i r ≡ node_says k s = cc in
    let tail : drop (i + 1) (said t) ≡ nodes_say (k + c) (A ++ B) ++ R = cc in
    let tails : drop (i + 1) (said t) ≡ nodes_say (k + c) A ++ (nodes_say (k + c + total A) B ++ R) =
    tail ∙ ap (λ l. l ++ R) (say_append (k + c) A B) ∙ append_assoc (nodes_say (k + c) A) (nodes_say (k + c + total A) B) R in
    let start : r.entries_start ≡ k = ap (λ (x : Says). x.start) first in
    let counted : r.entries_count ≡ c = ap (λ (x : Says). x.count) first in
    let below : r.below ≡ length A = ap (λ (x : Says). x.below) first ∙ ap (λ m. length (spots_in m s.self)) deep ∙ ap length inner_is in
    let after : line t (i + 1) ≡ k + c = line_after t i ∙ omega arith in
    let behind : drop (next t i) (said t) ≡ nodes_say (k + c + total A) B ++ R =
    sym (drop-drop r.below (i + 1) (said t)) ∙ ap (drop r.below) tails ∙ drop_at (nodes_say (k + c) A) _ r.below (say_length (k + c) A ∙ sym below) in
    record {
      less = omega arith;
      handle = ap (λ (x : Says). x.handle) first;
      head = ap (λ (x : Says). x.head) first;
      block = ap (λ (x : Says). x.block) first;
      below = below;
      in_line = start;
      there = omega arith;
      inside = omega arith;
      shallow = subst (λ m. m ≤ 32) deep h.nesting.0;
      inner = record {
        says = tails ∙ ap (λ l. nodes_say (k + c) A ++ l) (sym behind) ∙ ap (λ m. nodes_say m A ++ drop (next t i) (said t)) (sym after);
        count = omega arith;
        within = omega arith;
        room = omega arith;
        nesting = all_left _ A B h.nesting.1;
      };
      rest = λ lines. record {
        says = behind ∙ ap (λ m. nodes_say m B ++ R) (ap (λ m. m + total A) (sym after) ∙ sym lines);
        count = omega arith;
        within = within;
        room = omega arith;
        nesting = all_right _ A B h.nesting.1;
      };
    }

-- the nodes in a block, as they are read
pub record Inner (t : Tables) (f d i : ℕ) (h : NodeHandle) (b : Block) (A : List Spot) : Type 0 where
  pub nodes : Nodes
  pub is : rows t f (suc d) (i + 1) (next t i) ≡ Ok nodes
  pub block : (s : Bool) → s ≡ is_block b → block_of s nodes ≡ b
  pub spots : A ≡ spots (suc d) (Some h) [] nodes

spots_bare : (d : ℕ) (h : NodeHandle) (hd : Head) → spots_in d (node h hd no_block) ≡ []
unfolding spots
spots_bare d h hd = refl

spots_block : (d : ℕ) (h : NodeHandle) (hd : Head) (ns : Nodes) → spots_in d (node h hd (block ns)) ≡ spots (suc d) (Some h) [] ns
unfolding spots
spots_block d h hd ns = refl

block_bare : (s : Bool) → s ≡ false → block_of s nil ≡ no_block
block_bare s e = ap (λ b. block_of b nil) e

block_there : (ns : Nodes) (s : Bool) → s ≡ true → block_of s ns ≡ block ns
block_there ns s e = ap (λ b. block_of b ns) e

read_inner : (t : Tables) (f d i to : ℕ) (h : NodeHandle) (hd : Head) (b : Block) (B : List Spot) → Split t d i to (node h hd b) (spots_in d (node h hd b)) B
    → ((ns : Nodes) → Holds t (suc d) (i + 1) (next t i) (spots (suc d) (Some h) [] ns) → rows t f (suc d) (i + 1) (next t i) ≡ Ok ns)
    → Inner t f d i h b (spots_in d (node h hd b))
read_inner t f d i to h hd no_block B s again =
    let none = ap length (spots_bare d h hd) in
    let l = s.below in
    record {
      nodes = nil;
      is = rows_none t f (suc d) (i + 1) (next t i) (omega arith);
      block = block_bare;
      spots = spots_bare d h hd ∙ sym (spots_none (suc d) (Some h) []);
    }
read_inner t f d i to h hd (block ns) B s again = record {
  nodes = ns;
  is = again ns (subst (Holds t (suc d) (i + 1) (next t i)) (spots_block d h hd ns) s.inner);
  block = block_there ns;
  spots = spots_block d h hd ns;
}

bare_of : (t : Tables) (d i to : ℕ) (h : NodeHandle) (hd : Head) (b : Block) (B : List Spot) → Split t d i to (node h hd b) (spots_in d (node h hd b)) B → (row t i).block ≡ false → (row t i).below ≡ 0
bare_of t d i to h hd no_block B s e = s.below ∙ ap length (spots_bare d h hd)
bare_of t d i to h hd (block ns) B s e = absurd (let q = sym e ∙ s.block in let z : ◌≡◌ {A = ℕ} 0 1 = cc in omega arith)

module _ (t : Tables) (parts : (k : ℕ) → k < length t.nodes → NodeParts t.text (row t k)) where
  read_node : (f d i to : ℕ) (p : Option NodeHandle) (before : List Node) (h : NodeHandle) (hd : Head) (b : Block) (ns : Nodes) → to ≤ i + suc f
      → Split t d i to (node h hd b) (spots_in d (node h hd b)) (spots d p (before ++ node h hd b ∷ []) ns)
      → Inner t f d i h b (spots_in d (node h hd b))
      → (Holds t d (next t i) to (spots d p (before ++ node h hd b ∷ []) ns) → rows t f d (next t i) to ≡ Ok ns)
      → rows t (suc f) d i to ≡ Ok (cons (node h hd b) ns)
  read_node f d i to p before h hd b ns enough s n again =
      let inside = s.inside in
      let within = s.inner.within in
      let less = s.less in
      let q = parts i (omega arith) in
      let w : Fit t d i to = record {
        name = q.name;
        type = q.type;
        in_line = s.in_line;
        there = s.there;
        inside = inside;
        bare = bare_of t d i to h hd b _ s;
        shallow = s.shallow;
      } in
      let l = lays t f (suc d) (i + 1) (next t i) (Some h) [] n.nodes (omega arith) within (omega arith) n.is in
      let lines = l.lines ∙ ap (λ ss. line t (i + 1) + total ss) (sym n.spots) in
      closed t f d i to n.nodes ns less w n.is (again (s.rest lines))
      ∙ (λ j. Ok (cons (node (s.handle j) (s.head j) (n.block (row t i).block s.block j)) ns))

  pub read_back : (f d i to : ℕ) (p : Option NodeHandle) (before : List Node) (ns : Nodes) → to ≤ i + f → Holds t d i to (spots d p before ns) → rows t f d i to ≡ Ok ns
  read_back f d i to p before nil enough h =
      let none = ap length (spots_none d p before) in
      let c = h.count in
      rows_none t f d i to (omega arith)
  read_back zero d i to p before (cons n ns) enough h =
      let some = ap length (spots_some d p before n ns) in
      let c = h.count in
      absurd (omega arith)
  read_back (suc f) d i to p before (cons (node k hd b) ns) enough h =
      let s : Spot = record { before = before; self = node k hd b; after = listed ns; parent = p; nesting = d } in
      let sp = split t d i to s (spots_in d (node k hd b)) (spots d p (before ++ node k hd b ∷ []) ns) refl refl (subst (Holds t d i to) (spots_some d p before (node k hd b) ns) h) in
      let inside = sp.inside in
      read_node f d i to p before k hd b ns enough sp
      (read_inner t f d i to k hd b _ sp (λ ms holds. read_back f (suc d) (i + 1) (next t i) (Some k) [] ms (omega arith) holds))
      (λ holds. read_back f d (next t i) to p (before ++ node k hd b ∷ []) ns (omega arith) holds)

-- entry rows with sound parts, each taken by a node
entries_sound : (t : Tables) (k : ℕ) (es : List EntryRow) → AllByRecursion (EntryParts t.text) es → k + length es ≤ line t (length t.nodes) → entry_rows t k es ≡ Ok tt
entries_sound t k [] a l = refl
entries_sound t k (e ∷ es) a l =
    let none : entry_cause t k e ≡ None =
    cond-true (perhaps_in_text t.text e.name) _ _ a.0.name
    ∙ cond-true (perhaps_in_text t.text e.ty) _ _ a.0.type
    ∙ cond-true (value_known t.text e.value) _ _ a.0.value
    ∙ cond-true (ltb k (line t (length t.nodes))) _ _ (lt-ltb k _ (omega arith)) in
    ap (λ o. and_then (judged Table.Entries k o) (λ _. entry_rows t (suc k) es)) none ∙ entries_sound t (suc k) es a.1 (omega arith)

limit_kept : (table : Table) (most n : ℕ) → n ≤ most → limited table most n ≡ Ok tt
limit_kept table most n l = ap (judged table 0) (cond-true (leb n most) _ _ (le-leb n most l))

pub read_laid : (t : Tables) (doc : Nodes) → Laid t doc → read t ≡ Ok doc
read_laid t doc l =
    let n = length t.nodes in
    let ss = all_spots doc in
    let long : length ss ≡ n = sym (say_length 0 ss) ∙ ap length (sym l.nodes) ∙ says_length t 0 t.nodes in
    let sums = sym (total_is ss) ∙ l.entries in
    let is = read_back t (λ k lt. All-get_or (NodeParts t.text) t.nodes k blank lt l.node_parts) n 1 0 n None [] doc (omega arith) (record {
      says = l.nodes ∙ sym (append-nil _) ∙ ap (λ x. nodes_say 0 ss ++ x) (sym (drop_all n (said t) (let q = says_length t 0 t.nodes in omega arith)));
      count = omega arith;
      within = omega arith;
      room = omega arith;
      nesting = l.nesting;
    }) in
    let lines = (lays t n 1 0 n None [] doc (omega arith) (omega arith) (omega arith) is).lines in
    ap (λ o. and_then o (λ _.
    and_then (rows t n 1 0 n) (λ ns.
    and_then (limited Table.Entries 65535 (length t.entries)) (λ _.
    and_then (entry_rows t 0 t.entries) (λ _.
    and_then (limited Table.Text 1048576 (length t.text)) (λ _. Ok ns)))))) (limit_kept Table.Nodes 65535 n l.few_nodes)
    ∙ ap (λ o. and_then o (λ ns.
    and_then (limited Table.Entries 65535 (length t.entries)) (λ _.
    and_then (entry_rows t 0 t.entries) (λ _.
    and_then (limited Table.Text 1048576 (length t.text)) (λ _. Ok ns))))) is
    ∙ ap (λ o. and_then o (λ _.
    and_then (entry_rows t 0 t.entries) (λ _.
    and_then (limited Table.Text 1048576 (length t.text)) (λ _. Ok doc)))) (limit_kept Table.Entries 65535 (length t.entries) l.few_entries)
    ∙ ap (λ o. and_then o (λ _. and_then (limited Table.Text 1048576 (length t.text)) (λ _. Ok doc))) (entries_sound t 0 t.entries l.entry_parts (omega arith))
    ∙ ap (λ o. and_then o (λ _. Ok doc)) (limit_kept Table.Text 1048576 (length t.text) l.short_text)

pub law : Law
law t doc = (laid t doc, read_laid t doc)

pub unique : (t : Tables) → Unique t
unique t a b l m = let e = sym (read_laid t a l) ∙ read_laid t b m in cc

pub exact : (t : Tables) (r : Result Counts TableFault) → r ≡ checked t → Exact t r
exact t r e = go (read t) refl r e
  where
    go : (o : Result Nodes TableFault) → read t ≡ o → (r : Result Counts TableFault) → r ≡ over counts_of o → Exact t r
    go (Ok doc) is (Ok c) h = (doc, laid t doc is, let s : c ≡ counts_of doc = cc in s)
    go (Ok doc) is (Err x) h = absurd (let z : ◌≡◌ {A = ℕ} 0 1 = cc in omega arith)
    go (Err x) is (Ok c) h = absurd (let z : ◌≡◌ {A = ℕ} 0 1 = cc in omega arith)
    go (Err x) is (Err y) h = λ doc l. let q = sym is ∙ read_laid t doc l in let z : ◌≡◌ {A = ℕ} 0 1 = cc in omega arith

pub made : (t : Tables) (doc : Nodes) → doc ≡ document t → Made t doc
made t doc e = record {
  is = e;
  sound = λ d l. e ∙ ap held (read_laid t d l);
  unsound = λ none. e ∙ go (read t) refl none;
  back = λ d f same. e ∙ ap held (read_laid t d (subst (λ x. Laid x d) (sym same) (lays_out d f)));
}
  where
    go : (o : Result Nodes TableFault) → read t ≡ o → ((d : Nodes) → Laid t d → ⊥) → held o ≡ nil
    go (Ok d) is none = absurd (none d (laid t d is))
    go (Err x) is none = refl
