-- The document that tables hold, or their first fault. Assumes nothing.
use Rattle.std.specs.Prelude.{ℕ, zero, suc, ◌+◌, Bool, true, false, cond, ◌&&◌, ◌||◌, List, [], ◌∷◌, length, Some, None, Ok, Err, Option, Result, ◌==◌, nat_le, nat_lt, slice_index_or}
use Rattle.tree.specs.Document.{Block, block, no_block, Nodes, node, nil, cons}
use Rattle.tree.specs.Counts.{counts_of}
use Rattle.tree.specs.Outcome.{and_then, over}
use Rattle.layout.specs.Rows.{Tables, in_text, perhaps_in_text, value_known, head}
use Rattle.layout.specs.declared.rows.NodeRow.{NodeRow}
use Rattle.layout.specs.declared.rows.EntryRow.{EntryRow}
use Rattle.layout.specs.declared.rows.ValueRow.TheVariants.{Null}
use Rattle.layout.specs.declared.fault.Table.{Table}
use Rattle.layout.specs.declared.fault.Cause.{Cause}
use Rattle.layout.specs.declared.fault.TableFault.{TableFault}
use Rattle.tree.specs.declared.counts.Counts.{Counts}

abbrev pub blank : NodeRow
blank = record {
  name = record { part = record { start = 0; length = 0 }; span = record { start = 0; length = 0 } };
  ty = None;
  span = record { start = 0; length = 0 };
  entries_start = 0;
  entries_count = 0;
  block = false;
  below = 0;
}

-- the node row i
abbrev pub row : Tables → ℕ → NodeRow
row t i = slice_index_or t.nodes i blank

abbrev pub blank_entry : EntryRow
blank_entry = record { name = None; ty = None; value = Null; span = record { start = 0; length = 0 } }

-- the entry row k
abbrev pub entry_row : Tables → ℕ → EntryRow
entry_row t k = slice_index_or t.entries k blank_entry

-- the row behind the last row below the row i
abbrev pub next : Tables → ℕ → ℕ
next t i = i + 1 + (row t i).below

-- the entry row at which the entries of node row i must start: the one behind those of the row before
abbrev pub line : Tables → ℕ → ℕ
line t zero = 0
line t (suc i) = (row t i).entries_start + (row t i).entries_count

-- refuses a row, where there is a cause
abbrev pub judged : Table → ℕ → Option Cause → Result (Unit {0}) TableFault
judged table i None = Ok tt
judged table i (Some c) = Err (record { table = table; row = i; cause = c })

-- what is wrong with node row i, of nesting d, in a block whose rows end before to
abbrev pub node_cause : Tables → ℕ → ℕ → ℕ → Option Cause
node_cause t d i to =
    let r = row t i in
    cond (in_text t.text r.name.part)
    (cond (perhaps_in_text t.text r.ty)
    (cond (r.entries_start == line t i && nat_le (r.entries_start + r.entries_count) (length t.entries))
    (cond (nat_le (next t i) to && (r.block || r.below == 0))
    (cond (nat_le d 32)
    None
    (Some Cause.Nesting))
    (Some Cause.Size))
    (Some Cause.Entries))
    (Some Cause.Type))
    (Some Cause.Name)

abbrev pub block_of : Bool → Nodes → Block
block_of true ns = block ns
block_of false ns = no_block

-- the nodes of nesting d in the rows from i up to to; f bounds how many there are
unfoldable pub rows : Tables → ℕ → ℕ → ℕ → ℕ → Result Nodes TableFault
rows t zero d i to = Ok nil
rows t (suc f) d i to =
    cond (nat_lt i to)
    (and_then (judged Table.Nodes i (node_cause t d i to)) (λ _.
    and_then (rows t f (suc d) (i + 1) (next t i)) (λ inner.
    and_then (rows t f d (next t i) to) (λ rest.
    Ok (cons (node (record { number = i }) (head t (row t i)) (block_of (row t i).block inner)) rest)))))
    (Ok nil)

-- what is wrong with entry row k, which is e: the last entries may be taken by no node
abbrev pub entry_cause : Tables → ℕ → EntryRow → Option Cause
entry_cause t k e =
    cond (perhaps_in_text t.text e.name)
    (cond (perhaps_in_text t.text e.ty)
    (cond (value_known t.text e.value)
    (cond (nat_lt k (line t (length t.nodes)))
    None
    (Some Cause.Entries))
    (Some Cause.Value))
    (Some Cause.Type))
    (Some Cause.Name)

-- the entry rows from k on
abbrev pub entry_rows : Tables → ℕ → List EntryRow → Result (Unit {0}) TableFault
entry_rows t k [] = Ok tt
entry_rows t k (e ∷ es) = and_then (judged Table.Entries k (entry_cause t k e)) (λ _. entry_rows t (suc k) es)

-- at most so many; too many are a fault of row 0
abbrev pub limited : Table → ℕ → ℕ → Result (Unit {0}) TableFault
limited table most n = judged table 0 (cond (nat_le n most) None (Some Cause.Limit))

-- nodes are judged before entries, and the text's limit last
abbrev pub read : Tables → Result Nodes TableFault
read t =
    and_then (limited Table.Nodes 65535 (length t.nodes)) (λ _.
    and_then (rows t (length t.nodes) 1 0 (length t.nodes)) (λ ns.
    and_then (limited Table.Entries 65535 (length t.entries)) (λ _.
    and_then (entry_rows t 0 t.entries) (λ _.
    and_then (limited Table.Text 1048576 (length t.text)) (λ _.
    Ok ns)))))

-- what the check answers
abbrev pub checked : Tables → Result Counts TableFault
checked t = over counts_of (read t)

abbrev pub held : Result Nodes TableFault → Nodes
held (Ok doc) = doc
held (Err e) = nil

-- the document that is made of tables: the empty one where they are unsound
abbrev pub document : Tables → Nodes
document t = held (read t)
