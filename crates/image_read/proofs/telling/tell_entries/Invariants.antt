use Rattle.std.proofs.Common.{◌≤◌, List, length}
use Rattle.index.specs.declared.keyed.Keyed.{Keyed}
use Rattle.index.specs.declared.link.NodeLink.{NodeLink}
use Rattle.index.specs.declared.link.EntryLink.{EntryLink}
use Rattle.image_format.specs.Reading.{Read, Place}
use Rattle.image_format.proofs.Linking.{FillsEntries}
use Rattle.records.specs.Read.{place_of}
use Rattle.image_read.proofs.telling.tell_entries.Given as goal

-- what was told, with the entries from rest on, comes to all
abbrev pub invariant-loop-node : goal.invariant-loop-node
invariant-loop-node g l =
    (length l.rest.bytes.now ≤ length l.start.bytes.now)
    × ((ns : List (Keyed NodeLink)) (es : List (Keyed EntryLink)) → g.S.Sink.told l.initial.sink ns es
    → (vs : List (Keyed EntryLink)) × g.S.Sink.told l.sink ns vs
    × ((r : Read (List (Keyed EntryLink) × Place)) → FillsEntries l.node vs (place_of l.rest) r → FillsEntries l.node es (place_of l.start) r))

abbrev pub decreases-loop-node : goal.decreases-loop-node
decreases-loop-node g l = length l.rest.bytes.now
