-- A row that is read at the number of a node or an entry. Assumes nothing.
use Rattle.std.proofs.Common.{◌≡◌, ℕ, ◌<◌, length, get_or, List, Some, None, Option, Bor, OnSome, IsSomeAnd, sym, subst, arith}
use Rattle.std.specs.Option.{option_copied}
use Rattle.std.specs.Slice.{IsItemAt}
use Rattle.tree.specs.declared.handle.NodeHandle.{NodeHandle}
use Rattle.tree.specs.declared.handle.EntryHandle.{EntryHandle}
use Rattle.tree.specs.Going.{found, found_entry}
use Rattle.linked.proofs.Cases.{on_some}
use Rattle.layout.specs.Rows.{Tables}
use Rattle.layout.specs.Tables.{blank, blank_entry, document}
use Rattle.layout.specs.declared.rows.NodeRow.{NodeRow}
use Rattle.layout.specs.declared.rows.EntryRow.{EntryRow}
use Rattle.layout.proofs.Answering.{NodeTold, node_told, EntryTold, entry_told}

-- an element that is there is had
had : {X : Type 0} (P : X → Type 0) (xs : List X) (i : ℕ) (d : X) (got : Option (Bor X)) → IsItemAt xs i got → i < length xs → P (get_or xs i d) → IsSomeAnd (option_copied got) P
had P xs i d None it lt p = absurd (omega (arith, it.3))
had P xs i d (Some x) it lt p = subst P (sym (it.3.1 d)) p

pub node_row : (t : Tables) (n : NodeHandle) (got : Option (Bor NodeRow)) (r : Option NodeRow) → IsItemAt t.nodes n.number got → r ≡ option_copied got → OnSome (found (document t) n) (IsSomeAnd r (NodeTold t (found (document t) n)))
node_row t n got r it copied = on_some (found (document t) n) _ (λ s is.
    let told = node_told t n s is in
    rw copied (had (NodeTold t (found (document t) n)) t.nodes n.number blank got it told.0 told.1))

pub entry_row : (t : Tables) (e : EntryHandle) (got : Option (Bor EntryRow)) (r : Option EntryRow) → IsItemAt t.entries e.number got → r ≡ option_copied got → OnSome (found_entry (document t) e) (IsSomeAnd r (EntryTold t (found_entry (document t) e) e.number))
entry_row t e got r it copied = on_some (found_entry (document t) e) _ (λ s is.
    let told = entry_told t e s is in
    rw copied (had (EntryTold t (found_entry (document t) e) e.number) t.entries e.number blank_entry got it told.0 told.1))
