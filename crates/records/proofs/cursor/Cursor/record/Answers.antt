use Rattle.std.proofs.Common.{ap}
use Rattle.tree.specs.Outcome.{over}
use Rattle.records.specs.Places.{located, placed, part}
use Rattle.records.specs.Read.{place_of}
use Rattle.records.proofs.cursor.Cursor.record.Goals as goal

pub returns-in-Ok-clause-is : goal.returns-in-Ok-clause-is
unfolding part
returns-in-Ok-clause-is c = rw c.placed.ensures.is (ap (λ m. over (placed (place_of c.args.self)) (located (place_of c.args.self) m)) c.in-Ok.ensures.is)

pub returns-in-Err-clause-is : goal.returns-in-Err-clause-is
unfolding part
returns-in-Err-clause-is c = rw c.fault.ensures (ap (λ m. over (placed (place_of c.args.self)) (located (place_of c.args.self) m)) c.in-Err.ensures.is)
