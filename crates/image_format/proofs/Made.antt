-- What is made of bytes. Assumes nothing.
use Rattle.std.proofs.Common.{◌≡◌, ℕ, suc, ◌+◌, min, List, [], ◌∷◌, map, length, None, Ok, Err, Result, sym, refl, ap, ◌∙◌, subst, arith}
use Rattle.tree.specs.declared.counts.Counts.{Counts}
use Rattle.tree.specs.Counts.{counts_of}
use Rattle.tree.specs.Document.{Nodes, nil, handle_in}
use Rattle.tree.specs.Limits.{node_numbers, entry_numbers}
use Rattle.tree.specs.Numbers.{Rising}
use Rattle.index.specs.declared.keyed.Keyed.{Keyed}
use Rattle.index.specs.declared.link.NodeLink.{NodeLink}
use Rattle.index.specs.declared.link.EntryLink.{EntryLink}
use Rattle.index.specs.Keys.{keys}
use Rattle.index.specs.Links.{link, entry_link, links_of, entry_links_of}
use Rattle.index.proofs.Linked.{link_keys, entry_link_keys}
pub use Rattle.records.proofs.Numbers.{bytes_from}
use Rattle.records.proofs.Cutting.{record_long}
use Rattle.image_format.specs.Writing.{nodes_of}
use Rattle.image_format.proofs.Standing.{climbs_few, climbs_rising, nodes_climb, entries_climb}
use Rattle.image_format.proofs.Linking.{Both, onto, node_links, entry_rows, all_links, all_entry_links}
use Rattle.tree.specs.Going.{all_spots, all_entries}
use Rattle.tree.specs.Outcome.{over}
use Rattle.records.specs.Numbers.{Bytes}
use Rattle.records.specs.declared.fault.RecordFault.{RecordFault}
use Rattle.image_format.specs.Reading.{Read, image, held, document_in}
use Rattle.image_format.specs.Law.{Exact, Accepts, Unique, Made}
use Rattle.image_format.proofs.Basics.{err_ok, ok_ok}
use Rattle.image_format.proofs.Accepted.{accepted}
use Rattle.image_format.proofs.Complete.{complete}

pub unique : (bs : List ℕ) → Unique bs
unique bs a b x y = ok_ok (sym (complete bs a x) ∙ complete bs b y)

pub accepts : (bs : List ℕ) (r : Result Counts RecordFault) → Bytes bs → r ≡ over counts_of (image bs) → Accepts bs r
accepts bs r b e = go (image bs) refl r e
  where
    go : (o : Read Nodes) → image bs ≡ o → (r : Result Counts RecordFault) → r ≡ over counts_of o → Accepts bs r
    go (Ok doc) is (Ok c) h = (doc, accepted bs doc b is, ok_ok h)
    go (Ok doc) is (Err x) h = err_ok x _ h
    go (Err x) is (Ok c) h = err_ok x c (sym h)
    go (Err x) is (Err y) h = λ doc l. err_ok x doc (sym is ∙ complete bs doc l)

pub made : (bs : List ℕ) → Bytes bs → Made bs (document_in bs)
made bs b = record {
  is = refl;
  sound = λ d l. ap held (complete bs d l);
  unsound = λ none. go (image bs) refl none;
}
  where
    go : (o : Read Nodes) → image bs ≡ o → ((d : Nodes) → Exact bs d → ⊥) → held o ≡ nil
    go (Ok d) is none = absurd (none d (accepted bs d b is))
    go (Err x) is none = refl

-- how many links there are
links_length : {X : Type 0} {Y : Type 0} (f : X → Y) (xs : List X) → length (map f xs) ≡ length xs
links_length f [] = refl
links_length f (x ∷ xs) = ap suc (links_length f xs)

-- what a counter was told are the counts of the document
pub told_counts : (bs : List ℕ) (b : Bytes bs) (y : Both) (n e : ℕ) → Ok y ≡ over (onto None ([], [])) (image bs) → n ≡ min (length y.0) 4294967295 → e ≡ min (length y.1) 4294967295
    → Ok (record { nodes = n; entries = e }) ≡ over counts_of (image bs)
told_counts bs b y n e h nodes entries = go (image bs) refl h
  where
    go : (o : Read Nodes) → image bs ≡ o → Ok y ≡ over (onto None ([], [])) o → Ok (record { nodes = n; entries = e }) ≡ over counts_of o
    go (Ok doc) is k =
        let x = accepted bs doc b is in
        let same : y ≡ (node_links None doc, entry_rows doc) = ok_ok k in
        let size = ap length x.written ∙ record_long 1 (nodes_of doc) in
        let short = x.short in
        let a = climbs_few 6 (6 + length (nodes_of doc)) (node_numbers (all_spots doc)) (nodes_climb doc x.stand) in
        let c = climbs_few 6 (6 + length (nodes_of doc)) (entry_numbers (all_entries doc)) (entries_climb doc x.stand) in
        let d = links_length (λ s. (handle_in s.self).number) (all_spots doc) in
        let f = links_length (λ s. s.self.handle.number) (all_entries doc) in
        let l : length y.0 ≡ length (all_spots doc) = ap (λ (z : Both). length z.0) same ∙ ap length (all_links doc) ∙ links_length (λ s. record { key = (handle_in s.self).number; value = link s }) (all_spots doc) in
        let m : length y.1 ≡ length (all_entries doc) = ap (λ (z : Both). length z.1) same ∙ ap length (all_entry_links doc) ∙ links_length (λ s. record { key = s.self.handle.number; value = entry_link s }) (all_entries doc) in
        let p : n ≡ length (all_spots doc) = omega arith in
        let q : e ≡ length (all_entries doc) = omega arith in
        λ i. Ok (record { nodes = p i; entries = q i })
    go (Err c) is k = err_ok c y (sym k)

pub told_fault : (bs : List ℕ) (c : RecordFault) → Err c ≡ over (onto None ([], [])) (image bs) → Err c ≡ over counts_of (image bs)
told_fault bs c h = go (image bs) h
  where
    go : (o : Read Nodes) → Err c ≡ over (onto None ([], [])) o → Err c ≡ over counts_of o
    go (Ok doc) k = err_ok c _ k
    go (Err d) k = let same : c ≡ d = cc in ap Err same

-- what a keeper was told are the links of the document
pub told_links : (bs : List ℕ) (y : Both) → Ok y ≡ over (onto None ([], [])) (image bs) → (y.0 ≡ links_of (document_in bs)) × (y.1 ≡ entry_links_of (document_in bs))
told_links bs y h = go (image bs) h
  where
    go : (o : Read Nodes) → Ok y ≡ over (onto None ([], [])) o → (y.0 ≡ links_of (held o)) × (y.1 ≡ entry_links_of (held o))
    go (Ok doc) k =
        let same : y ≡ (node_links None doc, entry_rows doc) = ok_ok k in
        (ap (λ (z : Both). z.0) same ∙ all_links doc, ap (λ (z : Both). z.1) same ∙ all_entry_links doc)
    go (Err c) k = err_ok c y (sym k)

-- without a document there are no links
pub no_links : (bs : List ℕ) (c : RecordFault) → Err c ≡ over (onto None ([], [])) (image bs) → ([] ≡ links_of (document_in bs)) × ([] ≡ entry_links_of (document_in bs))
no_links bs c h = go (image bs) h
  where
    go : (o : Read Nodes) → Err c ≡ over (onto None ([], [])) o → ([] ≡ links_of (held o)) × ([] ≡ entry_links_of (held o))
    go (Ok doc) k = err_ok c _ k
    go (Err d) k = (all_links nil, all_entry_links nil)

-- the handles in the links rise
pub nodes_rise : (bs : List ℕ) → Bytes bs → (xs : List (Keyed NodeLink)) → xs ≡ links_of (document_in bs) → Rising (keys xs)
nodes_rise bs b xs is = go (image bs) refl is
  where
    go : (o : Read Nodes) → image bs ≡ o → xs ≡ links_of (held o) → Rising (keys xs)
    go (Ok doc) e k = subst Rising (sym (ap keys k ∙ link_keys (all_spots doc))) (climbs_rising 6 (6 + length (nodes_of doc)) (node_numbers (all_spots doc)) (nodes_climb doc (accepted bs doc b e).stand))
    go (Err c) e k = subst Rising (ap keys (all_links nil ∙ sym k)) (climbs_rising 0 0 [] (omega arith))

pub entries_rise : (bs : List ℕ) → Bytes bs → (xs : List (Keyed EntryLink)) → xs ≡ entry_links_of (document_in bs) → Rising (keys xs)
entries_rise bs b xs is = go (image bs) refl is
  where
    go : (o : Read Nodes) → image bs ≡ o → xs ≡ entry_links_of (held o) → Rising (keys xs)
    go (Ok doc) e k = subst Rising (sym (ap keys k ∙ entry_link_keys (all_entries doc))) (climbs_rising 6 (6 + length (nodes_of doc)) (entry_numbers (all_entries doc)) (entries_climb doc (accepted bs doc b e).stand))
    go (Err c) e k = subst Rising (ap keys (all_entry_links nil ∙ sym k)) (climbs_rising 0 0 [] (omega arith))
