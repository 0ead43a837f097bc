-- The bytes that are read at the number of a node or an entry. Assumes nothing.
use Rattle.std.proofs.Common.{ℕ, ◌≤◌, List, length, drop, Some, None, Option, Bor, OnSome, IsSomeAnd, sym, subst, ⊎_elim, ◌∙◌, arith}
use Rattle.std.specs.Slice.{IsGetRangeResult}
use Rattle.tree.specs.declared.handle.NodeHandle.{NodeHandle}
use Rattle.tree.specs.declared.handle.EntryHandle.{EntryHandle}
use Rattle.tree.specs.Going.{found, found_entry}
use Rattle.linked.proofs.Cases.{on_some}
use Rattle.records.specs.Numbers.{Bytes}
use Rattle.image_format.specs.Reading.{document_in}
use Rattle.image_format.proofs.Answering.{NodeTold, node_told, EntryTold, entry_told, whole_rest}

-- what is left from an offset on is had
had : (P : List ℕ → Type 0) (bs : List ℕ) (n : ℕ) (got : Option (Bor (List ℕ))) → IsGetRangeResult bs n (length bs) got → n ≤ length bs → P (drop n bs) → IsSomeAnd got (λ xs. P xs.now)
had P bs n None it le p = absurd (⊎_elim (λ more. omega arith) (λ less. omega arith) it.0)
had P bs n (Some xs) it le p = subst P (sym (it.0.2 ∙ whole_rest n bs)) p

pub node_bytes : (bs : List ℕ) → Bytes bs → (n : NodeHandle) (got : Option (Bor (List ℕ))) → IsGetRangeResult bs n.number (length bs) got → OnSome (found (document_in bs) n) (IsSomeAnd got (λ xs. NodeTold (found (document_in bs) n) xs.now))
node_bytes bs b n got it = on_some (found (document_in bs) n) _ (λ s is.
    let told = node_told bs b n s is in
    had (NodeTold (found (document_in bs) n)) bs n.number got it told.0 told.1)

pub entry_bytes : (bs : List ℕ) → Bytes bs → (e : EntryHandle) (got : Option (Bor (List ℕ))) → IsGetRangeResult bs e.number (length bs) got → OnSome (found_entry (document_in bs) e) (IsSomeAnd got (λ xs. EntryTold (found_entry (document_in bs) e) xs.now))
entry_bytes bs b e got it = on_some (found_entry (document_in bs) e) _ (λ s is.
    let told = entry_told bs b e s is in
    had (EntryTold (found_entry (document_in bs) e)) bs e.number got it told.0 told.1)
