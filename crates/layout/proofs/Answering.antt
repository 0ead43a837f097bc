-- What the row of a handle says of the document that is made of tables. Assumes nothing.
use Rattle.std.proofs.Common.{◌≡◌, ℕ, ◌<◌, length, Some, Ok, Err, Option, Result, refl, ap, ◌∙◌, subst}
use Rattle.std.proofs.ByRecursion.{All-get_or}
use Rattle.tree.specs.declared.handle.NodeHandle.{NodeHandle}
use Rattle.tree.specs.declared.handle.EntryHandle.{EntryHandle}
use Rattle.tree.specs.Document.{Nodes, head_in}
use Rattle.tree.specs.Going.{Spot, EntrySpot, spots, all_spots, all_entries, found, found_entry}
use Rattle.layout.specs.Rows.{Tables, head, entry}
use Rattle.layout.specs.Tables.{blank, row, blank_entry, entry_row, read, held, document}
use Rattle.layout.specs.Layout.{NodeParts, EntryParts}
use Rattle.layout.specs.declared.rows.NodeRow.{NodeRow}
use Rattle.layout.specs.declared.rows.EntryRow.{EntryRow}
use Rattle.layout.specs.declared.fault.TableFault.{TableFault}
use Rattle.layout.proofs.Reading.{laid}
use Rattle.index.proofs.Found.{none_some, spot_found, entry_found}
use Rattle.layout.proofs.Placed.{NodeStands, node_stands, EntryStands, entry_stands}

-- o is a node, and r the row that says what it is
pub record NodeTold (t : Tables) (o : Option Spot) (r : NodeRow) : Type 0 where
  pub spot : Spot
  pub is : o ≡ Some spot
  pub says : head_in spot.self ≡ head t r
  pub parts : NodeParts t.text r

pub record EntryTold (t : Tables) (o : Option EntrySpot) (k : ℕ) (r : EntryRow) : Type 0 where
  pub spot : EntrySpot
  pub is : o ≡ Some spot
  pub says : spot.self ≡ entry t.text k r
  pub parts : EntryParts t.text r

-- a node that is found stands in the row of its number
pub node_told : (t : Tables) (n : NodeHandle) (s : Spot) → found (document t) n ≡ Some s → (n.number < length t.nodes) × NodeTold t (found (document t) n) (row t n.number)
unfolding spots
node_told t n s e = go (read t) refl e
  where
    go : (o : Result Nodes TableFault) → read t ≡ o → found (held o) n ≡ Some s → (n.number < length t.nodes) × NodeTold t (found (document t) n) (row t n.number)
    go (Err x) is f = none_some s f
    go (Ok doc) is f =
        let l = laid t doc is in
        let p = spot_found (NodeStands t) (all_spots doc) n.number s (node_stands t doc l) f in
        let inside : n.number < length t.nodes = subst (λ k. k < length t.nodes) p.1 p.0.inside in (
          inside,
          record {
            spot = s;
            is = e;
            says = p.0.head ∙ ap (λ k. head t (row t k)) p.1;
            parts = All-get_or (NodeParts t.text) t.nodes n.number blank inside l.node_parts;
          },
        )

pub entry_told : (t : Tables) (n : EntryHandle) (s : EntrySpot) → found_entry (document t) n ≡ Some s → (n.number < length t.entries) × EntryTold t (found_entry (document t) n) n.number (entry_row t n.number)
unfolding spots
entry_told t n s e = go (read t) refl e
  where
    go : (o : Result Nodes TableFault) → read t ≡ o → found_entry (held o) n ≡ Some s → (n.number < length t.entries) × EntryTold t (found_entry (document t) n) n.number (entry_row t n.number)
    go (Err x) is f = none_some s f
    go (Ok doc) is f =
        let l = laid t doc is in
        let p = entry_found (λ x. EntryStands t x.self) (all_entries doc) n.number s (entry_stands t doc l).stand f in
        let inside : n.number < length t.entries = subst (λ k. k < length t.entries) p.1 p.0.inside in (
          inside,
          record {
            spot = s;
            is = e;
            says = p.0.is ∙ ap (λ k. entry t.text k (entry_row t k)) p.1;
            parts = All-get_or (EntryParts t.text) t.entries n.number blank_entry inside l.entry_parts;
          },
        )
