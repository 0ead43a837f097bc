-- The links of the document that is made of tables. Assumes nothing.
use Rattle.std.proofs.Common.{◌≡◌, ◌≤◌, true, false, List, [], ◌++◌, length, is_ok, None, Ok, Err, Result, sym, refl, ap, ◌∙◌, subst, arith}
use Rattle.std.proofs.lemmas.Bool.{false≢true}
use Rattle.tree.specs.Document.{Nodes, nil}
use Rattle.tree.specs.Going.{spots, all_spots, all_entries}
use Rattle.tree.specs.Numbers.{Rising}
use Rattle.tree.specs.Outcome.{over}
use Rattle.index.specs.declared.keyed.Keyed.{Keyed}
use Rattle.index.specs.declared.link.NodeLink.{NodeLink}
use Rattle.index.specs.declared.link.EntryLink.{EntryLink}
use Rattle.index.specs.Keys.{keys}
use Rattle.index.specs.Links.{links, entry_links, links_of, entry_links_of}
use Rattle.index.proofs.Linked.{link_keys, entry_link_keys}
use Rattle.layout.specs.Rows.{Tables}
use Rattle.tree.specs.Counts.{counts_of}
use Rattle.layout.specs.Tables.{rows, entry_rows, limited, read, checked, held, document}
use Rattle.layout.specs.Typed.{typed}
use Rattle.layout.specs.declared.fault.Table.{Table}
use Rattle.layout.specs.declared.fault.TableFault.{TableFault}
use Rattle.layout.proofs.Steps.{passed}
use Rattle.layout.proofs.Laying.{lays, spots_none}
use Rattle.layout.proofs.Reading.{laid}
use Rattle.layout.proofs.Filling.{Fills, Whole, Rooms, rows_entries, all_entries_are}
use Rattle.layout.proofs.Within.{lawful}

-- sound tables
pub record Ready (t : Tables) : Type 0 where
  pub doc : Nodes
  pub is : read t ≡ Ok doc
  pub rows_are : rows t (length t.nodes) 1 0 (length t.nodes) ≡ Ok doc
  pub whole : Whole t 0 (length t.nodes)
  pub rooms : Rooms t
  pub few_nodes : length t.nodes ≤ 65535
  pub few_entries : length t.entries ≤ 65535

ready_by : (t : Tables) (doc : Nodes) → read t ≡ Ok doc → Ready t
ready_by t doc e =
    let n = length t.nodes in
    let p₁ = passed (limited Table.Nodes 65535 n) _ doc e in
    let p₂ = passed (rows t n 1 0 n) _ doc p₁.then in
    let p₃ = passed (limited Table.Entries 65535 (length t.entries)) _ doc p₂.then in
    let p₄ = passed (entry_rows t 0 t.entries) _ doc p₃.then in
    let p₅ = passed (limited Table.Text 1048576 (length t.text)) _ doc p₄.then in
    let same : p₂.first ≡ doc = let q = p₅.then in cc in
    let is = p₂.was ∙ ap Ok same in
    let l = laid t doc e in
    record {
      doc = doc;
      is = e;
      rows_are = is;
      whole = record { nesting = 1; fuel = n; nodes = doc; enough = omega arith; is = is };
      rooms = λ i lt. (lays t n 1 0 n None [] doc (omega arith) (omega arith) (omega arith) is).rooms i (omega arith) lt;
      few_nodes = l.few_nodes;
      few_entries = l.few_entries;
    }

pub ready : (t : Tables) → is_ok (checked t) ≡ true → Ready t
ready t e = go (read t) refl e
  where
    go : (o : Result Nodes TableFault) → read t ≡ o → is_ok (over counts_of o) ≡ true → Ready t
    go (Ok doc) is h = ready_by t doc is
    go (Err x) is h = absurd (false≢true h)

pub linked_nodes : (t : Tables) → Ready t → (xs ys : List (Keyed NodeLink)) → xs ≡ [] → Fills t 0 (length t.nodes) None xs ys → ys ≡ links_of (document t)
linked_nodes t r xs ys none fills =
    fills 1 (length t.nodes) [] r.doc (omega arith) r.rows_are
    ∙ ap (λ l. l ++ links_of r.doc) none
    ∙ ap (λ o. links_of (held o)) (sym r.is)

pub linked_entries : (t : Tables) → Ready t → (xs ys : List (Keyed EntryLink)) → xs ≡ [] → ys ≡ xs ++ entry_links (rows_entries t 0 t.nodes) → ys ≡ entry_links_of (document t)
linked_entries t r xs ys none e =
    e
    ∙ ap (λ l. l ++ entry_links (rows_entries t 0 t.nodes)) none
    ∙ ap entry_links (all_entries_are t r.doc (laid t r.doc r.is))
    ∙ ap (λ o. entry_links_of (held o)) (sym r.is)

-- unsound tables
empty : (t : Tables) → is_ok (checked t) ≡ false → document t ≡ nil
empty t e = go (read t) e
  where
    go : (o : Result Nodes TableFault) → is_ok (over counts_of o) ≡ false → held o ≡ nil
    go (Ok doc) h = absurd (false≢true (sym h))
    go (Err x) h = refl

pub empty_nodes : (t : Tables) → is_ok (checked t) ≡ false → (xs : List (Keyed NodeLink)) → xs ≡ [] → xs ≡ links_of (document t)
empty_nodes t e xs none = none ∙ ap links (sym (spots_none 1 None [])) ∙ ap links_of (sym (empty t e))

pub empty_entries : (t : Tables) → is_ok (checked t) ≡ false → (xs : List (Keyed EntryLink)) → xs ≡ [] → xs ≡ entry_links_of (document t)
unfolding spots
empty_entries t e xs none = none ∙ ap entry_links_of (sym (empty t e))

-- the handles in the links rise
pub nodes_rise : (t : Tables) → typed t ≡ true → (xs : List (Keyed NodeLink)) → xs ≡ links_of (document t) → Rising (keys xs)
nodes_rise t e xs is = subst Rising (sym (ap keys is ∙ link_keys (all_spots (document t)))) (lawful t e).nodes_rise

pub entries_rise : (t : Tables) → typed t ≡ true → (xs : List (Keyed EntryLink)) → xs ≡ entry_links_of (document t) → Rising (keys xs)
entries_rise t e xs is = subst Rising (sym (ap keys is ∙ entry_link_keys (all_entries (document t)))) (lawful t e).entries_rise
