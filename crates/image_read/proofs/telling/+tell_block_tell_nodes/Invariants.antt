use Rattle.std.proofs.Common.{◌≤◌, length}
use Rattle.image_format.specs.Reading.{Read}
use Rattle.image_format.proofs.Linking.{Both, Fills}
use Rattle.records.specs.Read.{place_of}
use Rattle.image_read.proofs.telling.+tell_block_tell_nodes.Given as goal

abbrev pub decreases-tell_block : goal.decreases-tell_block
decreases-tell_block g l = length l.p.bytes.now

abbrev pub decreases-tell_nodes : goal.decreases-tell_nodes
decreases-tell_nodes g l = length l.start.bytes.now

-- what was told, with the nodes from rest on, comes to all
abbrev pub invariant-tell_nodes-loop-rest : goal.invariant-tell_nodes-loop-rest
invariant-tell_nodes-loop-rest g l =
    (length l.rest.bytes.now ≤ length l.start.bytes.now)
    × ((x : Both) → g.S.Sink.told l.initial.sink x.0 x.1
    → (y : Both) × g.S.Sink.told l.sink y.0 y.1
    × ((r : Read Both) → Fills l.parent y l.nesting (place_of l.rest) r → Fills l.parent x l.nesting (place_of l.start) r))

abbrev pub decreases-tell_nodes-loop-rest : goal.decreases-tell_nodes-loop-rest
decreases-tell_nodes-loop-rest g l = length l.rest.bytes.now
