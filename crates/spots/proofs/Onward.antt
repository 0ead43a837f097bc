-- The handles from one on: behind the first stand those from the next on. Assumes nothing.
use Rattle.std.proofs.Common.{◌≡◌, List, [], ◌∷◌, map, drop, Some, None, Option, sym, refl, ap}
use Rattle.tree.specs.declared.handle.NodeHandle.{NodeHandle}
use Rattle.tree.specs.declared.handle.EntryHandle.{EntryHandle}
use Rattle.tree.specs.Document.{Entry, Node, Nodes, handle_in}
use Rattle.tree.specs.Going.{Spot, EntrySpot, found, found_entry, then, first, first_of, next_sibling, next_entry}
use Rattle.tree.specs.Limits.{Lawful}
use Rattle.spots.specs.Rows.{row, row_of, nodes_from, entry_row, entry_row_of, entries_from}
use Rattle.spots.proofs.Rows.{row_next, entry_row_next}

pub nodes_onward : (d : Nodes) → Lawful d → (h : NodeHandle) → nodes_from d (Some h) ≡ h ∷ nodes_from d (next_sibling d h)
nodes_onward d law h = go (found d h) refl
  where
    behind : (ns : List Node) → row d (first ns) ≡ ns → map handle_in ns ≡ nodes_from d (first ns)
    behind [] e = refl
    behind (n ∷ ns) e = ap (λ l. handle_in n ∷ map handle_in (drop 1 l)) (sym e)

    go : (o : Option Spot) → found d h ≡ o → h ∷ map handle_in (drop 1 (row_of o)) ≡ h ∷ nodes_from d (then o (λ s. first s.after))
    go None q = refl
    go (Some s) q = ap (λ l. h ∷ l) (behind s.after (row_next d law h s q))

pub entries_onward : (d : Nodes) → Lawful d → (e : EntryHandle) → entries_from d (Some e) ≡ e ∷ entries_from d (next_entry d e)
entries_onward d law e = go (found_entry d e) refl
  where
    behind : (es : List Entry) → entry_row d (first_of es) ≡ es → map (λ (x : Entry). x.handle) es ≡ entries_from d (first_of es)
    behind [] r = refl
    behind (x ∷ es) r = ap (λ l. x.handle ∷ map (λ (y : Entry). y.handle) (drop 1 l)) (sym r)

    go : (o : Option EntrySpot) → found_entry d e ≡ o → e ∷ map (λ (x : Entry). x.handle) (drop 1 (entry_row_of o)) ≡ e ∷ entries_from d (then o (λ s. first_of s.after))
    go None q = refl
    go (Some s) q = ap (λ l. e ∷ l) (behind s.after (entry_row_next d law e s q))
