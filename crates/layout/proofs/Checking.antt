-- The check, step by step. Assumes nothing.
use Rattle.std.proofs.Common.{◌≡◌, length, Ok, Err, Result, sym, refl, ap, ◌∙◌}
use Rattle.tree.specs.Document.{Nodes}
use Rattle.tree.specs.Outcome.{and_then, over}
use Rattle.layout.specs.Rows.{Tables}
use Rattle.tree.specs.Counts.{counts_of}
use Rattle.layout.specs.Tables.{rows, entry_rows, limited, checked}
use Rattle.layout.specs.Layout.{Laid, Exact, Unique}
use Rattle.layout.specs.declared.fault.Table.{Table}
use Rattle.layout.specs.declared.fault.TableFault.{TableFault}
use Rattle.tree.specs.declared.counts.Counts.{Counts}
use Rattle.layout.proofs.Reading.{laid, exact, unique}
use Rattle.layout.proofs.Placed.{counted}

abbrev pub steps : Result (Unit {0}) TableFault → Result (Unit {0}) TableFault → Result (Unit {0}) TableFault → Result (Unit {0}) TableFault → Result (Unit {0}) TableFault → Counts → Result Counts TableFault
steps a b c d e n = and_then a (λ _. and_then b (λ _. and_then c (λ _. and_then d (λ _. and_then e (λ _. Ok n)))))

-- as many as there are rows
abbrev pub row_counts : Tables → Counts
row_counts t = record { nodes = length t.nodes; entries = length t.entries }

same_counts : (t : Tables) (doc : Nodes) → Laid t doc → counts_of doc ≡ row_counts t
same_counts t doc l = λ j. record { nodes = counted t doc l j; entries = l.entries j }

same_steps : (a : Result (Unit {0}) TableFault) (b : Result Nodes TableFault) (c d e : Result (Unit {0}) TableFault) (n : Counts)
    → ((doc : Nodes) → and_then a (λ _. and_then b (λ ns. and_then c (λ _. and_then d (λ _. and_then e (λ _. Ok ns))))) ≡ Ok doc → counts_of doc ≡ n)
    → over counts_of (and_then a (λ _. and_then b (λ ns. and_then c (λ _. and_then d (λ _. and_then e (λ _. Ok ns)))))) ≡ steps a (over (λ _. tt) b) c d e n
same_steps (Err x) b c d e n h = refl
same_steps (Ok x) (Err y) c d e n h = refl
same_steps (Ok x) (Ok ns) (Err y) d e n h = refl
same_steps (Ok x) (Ok ns) (Ok y) (Err z) e n h = refl
same_steps (Ok x) (Ok ns) (Ok y) (Ok z) (Err w) n h = refl
same_steps (Ok x) (Ok ns) (Ok y) (Ok z) (Ok w) n h = ap Ok (h ns refl)

pub checked_is : (t : Tables) → checked t ≡ steps (limited Table.Nodes 65535 (length t.nodes)) (over (λ _. tt) (rows t (length t.nodes) 1 0 (length t.nodes))) (limited Table.Entries 65535 (length t.entries)) (entry_rows t 0 t.entries) (limited Table.Text 1048576 (length t.text)) (row_counts t)
checked_is t = same_steps (limited Table.Nodes 65535 (length t.nodes)) (rows t (length t.nodes) 1 0 (length t.nodes)) (limited Table.Entries 65535 (length t.entries)) (entry_rows t 0 t.entries) (limited Table.Text 1048576 (length t.text)) (row_counts t) (λ doc e. same_counts t doc (laid t doc e))

pub checked_by : (t : Tables) (a b c d e : Result (Unit {0}) TableFault)
    → a ≡ limited Table.Nodes 65535 (length t.nodes)
    → b ≡ over (λ _. tt) (rows t (length t.nodes) 1 0 (length t.nodes))
    → c ≡ limited Table.Entries 65535 (length t.entries)
    → d ≡ entry_rows t 0 t.entries
    → e ≡ limited Table.Text 1048576 (length t.text)
    → steps a b c d e (row_counts t) ≡ checked t
checked_by t a b c d e e₁ e₂ e₃ e₄ e₅ = (λ j. steps (e₁ j) (e₂ j) (e₃ j) (e₄ j) (e₅ j) (row_counts t)) ∙ sym (checked_is t)

-- the answer is that of the definition: so it is exact, and there is no other document
pub told : (t : Tables) (r : Result Counts TableFault) → r ≡ checked t → record { answer : r ≡ checked t; exact : Exact t r; unique : Unique t }
told t r e = record { answer = e; exact = exact t r e; unique = unique t }
