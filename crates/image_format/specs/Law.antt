-- Reading and writing are one another's inverse. Assumes nothing.
use Rattle.std.specs.Prelude.{◌≡◌, ℕ, ◌≤◌, List, length, Ok, Err, Result}
use Rattle.tree.specs.Document.{Nodes, nil, depth}
use Rattle.tree.specs.Counts.{counts_of}
use Rattle.tree.specs.declared.counts.Counts.{Counts}
use Rattle.records.specs.Numbers.{Bytes}
use Rattle.records.specs.declared.fault.RecordFault.{RecordFault}
use Rattle.image_format.specs.Reading.{image, document_in}
use Rattle.image_format.specs.Writing.{image_of, Stand, Fit}

-- bs is the writing of doc, whose handles are the offsets of its records, within the limits
pub record Exact (bs : List ℕ) (doc : Nodes) : Type 0 where
  pub written : bs ≡ image_of doc
  pub stand : Stand 6 doc
  pub fit : Fit doc
  pub shallow : depth doc ≤ 32
  pub short : length bs ≤ 1048576

-- what is read from bytes is the document that they are the writing of, and there is no other
abbrev pub Law : Type 0
Law = (bs : List ℕ) (doc : Nodes) → Bytes bs → (image bs ≡ Ok doc → Exact bs doc) × (Exact bs doc → image bs ≡ Ok doc)

-- bytes are accepted, with the counts of their document, exactly if they are the writing of one
abbrev pub Accepts : List ℕ → Result Counts RecordFault → Type 0
Accepts bs (Ok c) = (doc : Nodes) × Exact bs doc × (c ≡ counts_of doc)
Accepts bs (Err e) = (doc : Nodes) → Exact bs doc → ⊥

-- bytes are the writing of at most one document
abbrev pub Unique : List ℕ → Type 0
Unique bs = (a b : Nodes) → Exact bs a → Exact bs b → a ≡ b

-- what is made of bytes is the document that they are the writing of, or the empty one
pub record Made (bs : List ℕ) (doc : Nodes) : Type 0 where
  pub is : doc ≡ document_in bs
  pub sound : (d : Nodes) → Exact bs d → doc ≡ d
  pub unsound : ((d : Nodes) → Exact bs d → ⊥) → doc ≡ nil
