-- How many nodes and entries a document has. Assumes nothing.
use Rattle.std.specs.Prelude.{length}
use Rattle.tree.specs.Document.{Nodes}
use Rattle.tree.specs.Going.{all_spots, all_entries}
use Rattle.tree.specs.declared.counts.Counts.{Counts}

abbrev pub counts_of : Nodes → Counts
counts_of doc = record { nodes = length (all_spots doc); entries = length (all_entries doc) }
