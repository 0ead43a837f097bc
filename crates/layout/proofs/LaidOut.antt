-- The tables that a document is laid out as lay it out. Assumes nothing.
use Rattle.std.proofs.Common.{◌≡◌, ℕ, suc, ◌+◌, true, List, [], ◌∷◌, ◌++◌, length, take, drop, Some, None, Option, sym, refl, ap, ◌∙◌, subst, append_assoc, append-nil, arith, length-append}
use Rattle.std.specs.List.{AllByRecursion}
use Rattle.std.proofs.lemmas.Bool.{le-leb}
use Rattle.tree.specs.declared.handle.NodeHandle.{NodeHandle}
use Rattle.tree.specs.Document.{Ident, Value, null, string, integer, float, bool, Entry, Nodes, handle_in, head_in, block_in, is_block}
use Rattle.tree.specs.Going.{Spot, spots_in, all_spots, entries_of, entries_from as entry_spots}
use Rattle.tree.proofs.Standing.{At, left, right, cuts, ends}
use Rattle.layout.specs.Rows.{Tables, in_text, perhaps, perhaps_in_text, value, value_known, entry, entries_from, picked}
use Rattle.layout.specs.Layout.{rows_say, nodes_say, NodeParts, EntryParts, Laid}
use Rattle.layout.specs.Laid.{perhaps_text, value_text, part_at, perhaps_row, value_row, entry_text, entry_row, entries_text, entry_rows, node_text, nodes_text, node_rows, own_entries, laid_out, NodesNumbered, EntriesNumbered, Fits}

-- what stands in a text lies in it
inside : (ys : List ℕ) (at : ℕ) (xs : List ℕ) → At ys at xs → in_text ys (part_at at xs) ≡ true
inside ys at xs a = le-leb (at + length xs) (length ys) (ends ys at xs a)

module _ (t : List ℕ) where
  perhaps_is : (at : ℕ) (o : Option Ident) → At t at (perhaps_text o) → perhaps t (perhaps_row at o) ≡ o
  perhaps_is at None a = refl
  perhaps_is at (Some i) a = ap (λ bs. Some (record { bytes = bs; span = i.span })) (cuts t at i.bytes a)

  perhaps_inside : (at : ℕ) (o : Option Ident) → At t at (perhaps_text o) → perhaps_in_text t (perhaps_row at o) ≡ true
  perhaps_inside at None a = refl
  perhaps_inside at (Some i) a = inside t at i.bytes a

  value_is : (at : ℕ) (v : Value) → At t at (value_text v) → value t (value_row at v) ≡ v
  value_is at null a = refl
  value_is at (string bs) a = ap string (cuts t at bs a)
  value_is at (integer n) a = refl
  value_is at (float x) a = refl
  value_is at (bool b) a = refl

  value_inside : (at : ℕ) (v : Value) → At t at (value_text v) → value_known t (value_row at v) ≡ true
  value_inside at null a = refl
  value_inside at (string bs) a = inside t at bs a
  value_inside at (integer n) a = refl
  value_inside at (float x) a = refl
  value_inside at (bool b) a = refl

  module _ (at : ℕ) (e : Entry) (a : At t at (entry_text e)) where
    name_at : At t at (perhaps_text e.name)
    name_at = left t at (perhaps_text e.name) (perhaps_text e.type ++ value_text e.value) a

    rest_at : At t (at + length (perhaps_text e.name)) (perhaps_text e.type ++ value_text e.value)
    rest_at = right t at (perhaps_text e.name) (perhaps_text e.type ++ value_text e.value) a

    type_at : At t (at + length (perhaps_text e.name)) (perhaps_text e.type)
    type_at = left t _ (perhaps_text e.type) (value_text e.value) rest_at

    value_at : At t (at + length (perhaps_text e.name) + length (perhaps_text e.type)) (value_text e.value)
    value_at = right t _ (perhaps_text e.type) (value_text e.value) rest_at

    entry_is : (k : ℕ) → e.handle ≡ record { number = k } → entry t k (entry_row at e) ≡ e
    entry_is k h = λ i. record {
      handle = sym h i;
      name = perhaps_is at e.name name_at i;
      type = perhaps_is _ e.type type_at i;
      value = value_is _ e.value value_at i;
      span = e.span;
    }

    entry_parts : EntryParts t (entry_row at e)
    entry_parts = record { name = perhaps_inside at e.name name_at; type = perhaps_inside _ e.type type_at; value = value_inside _ e.value value_at }

  entries_are : (at k : ℕ) (es : List Entry) → At t at (entries_text es) → EntriesNumbered k es → entries_from t k (entry_rows at es) ≡ es
  entries_are at k [] a n = refl
  entries_are at k (e ∷ es) a n =
      let one = entry_is at e (left t at (entry_text e) (entries_text es) a) k n.0 in
      let more = entries_are (at + length (entry_text e)) (suc k) es (right t at (entry_text e) (entries_text es) a) n.1 in
      λ i. one i ∷ more i

  all_entry_parts : (at : ℕ) (es : List Entry) → At t at (entries_text es) → AllByRecursion (EntryParts t) (entry_rows at es)
  all_entry_parts at [] a = tt
  all_entry_parts at (e ∷ es) a = (entry_parts at e (left t at (entry_text e) (entries_text es) a), all_entry_parts (at + length (entry_text e)) es (right t at (entry_text e) (entries_text es) a))

  all_node_parts : (at k : ℕ) (ss : List Spot) → At t at (nodes_text ss) → AllByRecursion (NodeParts t) (node_rows at k ss)
  all_node_parts at k [] a = tt
  all_node_parts at k (s ∷ ss) a =
      let h = head_in s.self in
      let mine = left t at (node_text h) (nodes_text ss) a in (
        record { name = inside t at h.name.bytes (left t at h.name.bytes (perhaps_text h.type) mine); type = perhaps_inside _ h.type (right t at h.name.bytes (perhaps_text h.type) mine) },
        all_node_parts (at + length (node_text h)) (k + length h.entries) ss (right t at (node_text h) (nodes_text ss) a),
      )

-- rows and text of entries, parted
texts_append : (xs ys : List Entry) → entries_text (xs ++ ys) ≡ entries_text xs ++ entries_text ys
texts_append [] ys = refl
texts_append (x ∷ xs) ys = ap (λ l. entry_text x ++ l) (texts_append xs ys) ∙ sym (append_assoc (entry_text x) (entries_text xs) (entries_text ys))

rows_append : (at : ℕ) (xs ys : List Entry) → entry_rows at (xs ++ ys) ≡ entry_rows at xs ++ entry_rows (at + length (entries_text xs)) ys
rows_append at [] ys = ap (λ n. entry_rows n ys) (omega arith)
rows_append at (x ∷ xs) ys =
    let l = length-append (entry_text x) (entries_text xs) in
    let same : at + length (entry_text x) + length (entries_text xs) ≡ at + length (entries_text (x ∷ xs)) = omega arith in
    ap (λ rs. entry_row at x ∷ rs) (rows_append (at + length (entry_text x)) xs ys ∙ ap (λ n. entry_rows (at + length (entry_text x)) xs ++ entry_rows n ys) same)

rows_length : (at : ℕ) (xs : List Entry) → length (entry_rows at xs) ≡ length xs
rows_length at [] = refl
rows_length at (x ∷ xs) = ap suc (rows_length (at + length (entry_text x)) xs)

numbered_left : (k : ℕ) (xs ys : List Entry) → EntriesNumbered k (xs ++ ys) → EntriesNumbered k xs
numbered_left k [] ys n = tt
numbered_left k (x ∷ xs) ys n = (n.0, numbered_left (suc k) xs ys n.1)

numbered_right : (k : ℕ) (xs ys : List Entry) → EntriesNumbered k (xs ++ ys) → EntriesNumbered (k + length xs) ys
numbered_right k [] ys n = subst (λ m. EntriesNumbered m ys) (omega arith) n
numbered_right k (x ∷ xs) ys n = subst (λ m. EntriesNumbered m ys) (omega arith) (numbered_right (suc k) xs ys n.1)

-- the rows of the nodes say what the nodes are
module _ (t : Tables) where
  nodes_are : (i at a k : ℕ) (ss : List Spot) → At t.text at (nodes_text ss) → At t.text a (entries_text (own_entries ss)) → At t.entries k (entry_rows a (own_entries ss)) → NodesNumbered i ss → EntriesNumbered k (own_entries ss)
      → rows_say t i (node_rows at k ss) ≡ nodes_say k ss
  nodes_are i at a k [] x y z n m = refl
  nodes_are i at a k (s ∷ ss) x y z n m =
      let h = head_in s.self in
      let es = h.entries in
      let others = own_entries ss in
      let a' = a + length (entries_text es) in
      let mine = left t.text at (node_text h) (nodes_text ss) x in
      let texts = subst (At t.text a) (texts_append es others) y in
      let rows = subst (At t.entries k) (rows_append a es others) z in
      let my_rows = left t.entries k (entry_rows a es) (entry_rows a' others) rows in
      let long = rows_length a es in
      let name = cuts t.text at h.name.bytes (left t.text at h.name.bytes (perhaps_text h.type) mine) in
      let type = perhaps_is t.text _ h.type (right t.text at h.name.bytes (perhaps_text h.type) mine) in
      let cut : take (length es) (drop k t.entries) ≡ entry_rows a es = ap (λ c. take c (drop k t.entries)) (sym long) ∙ cuts t.entries k (entry_rows a es) my_rows in
      let entries : picked t k (length es) ≡ es = ap (entries_from t.text k) cut ∙ entries_are t.text a k es (left t.text a (entries_text es) (entries_text others) texts) (numbered_left k es others m) in
      let more = nodes_are (suc i) (at + length (node_text h)) a' (k + length es) ss
      (right t.text at (node_text h) (nodes_text ss) x)
      (right t.text a (entries_text es) (entries_text others) texts)
      (subst (λ c. At t.entries (k + c) (entry_rows a' others)) long (right t.entries k (entry_rows a es) (entry_rows a' others) rows))
      n.1
      (numbered_right k es others m) in
      λ j. record {
        handle = sym n.0 j;
        head = record { name = record { bytes = name j; span = h.name.span }; type = type j; span = h.span; entries = entries j };
        start = k;
        count = length es;
        block = is_block (block_in s.self);
        below = length (spots_in s.nesting s.self);
      } ∷ more j

node_rows_length : (at k : ℕ) (ss : List Spot) → length (node_rows at k ss) ≡ length ss
node_rows_length at k [] = refl
node_rows_length at k (s ∷ ss) = ap suc (node_rows_length (at + length (node_text (head_in s.self))) (k + length (head_in s.self).entries) ss)

spots_length : (h : NodeHandle) (es : List Entry) → length (entry_spots h es) ≡ length es
spots_length h [] = refl
spots_length h (e ∷ es) = ap suc (spots_length h es)

own_length : (ss : List Spot) → length (entries_of ss) ≡ length (own_entries ss)
own_length [] = refl
own_length (s ∷ ss) =
    let h = handle_in s.self in
    let es = (head_in s.self).entries in
    length-append (entry_spots h es) (entries_of ss) ∙ (λ i. spots_length h es i + own_length ss i) ∙ sym (length-append es (own_entries ss))

pub lays_out : (doc : Nodes) → Fits doc → Laid (laid_out doc) doc
lays_out doc f =
    let t = laid_out doc in
    let ss = all_spots doc in
    let es = own_entries ss in
    let n = nodes_text ss in
    let x : At t.text 0 n = record { before = []; behind = entries_text es; whole = refl; long = refl } in
    let y : At t.text (length n) (entries_text es) = record { before = n; behind = []; whole = ap (λ l. n ++ l) (sym (append-nil (entries_text es))); long = refl } in
    let z : At t.entries 0 (entry_rows (length n) es) = record { before = []; behind = []; whole = sym (append-nil (entry_rows (length n) es)); long = refl } in
    let l = node_rows_length 0 0 ss in
    let m = rows_length (length n) es in
    let g = f.few_nodes in
    let k = f.few_entries in
    record {
      nodes = nodes_are t 0 0 (length n) 0 ss x y z f.nodes f.entries;
      entries = own_length ss ∙ sym m;
      node_parts = all_node_parts t.text 0 0 ss x;
      entry_parts = all_entry_parts t.text (length n) es y;
      nesting = f.nesting;
      few_nodes = omega arith;
      few_entries = omega arith;
      short_text = f.short_text;
    }
