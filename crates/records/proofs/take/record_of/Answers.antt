use Rattle.records.specs.Lent.{cut_of, place_at}
use Rattle.records.proofs.Parts.{part_of_refused, part_of_found, part_of_other}
use Rattle.records.proofs.take.record_of.Goals as goal

pub returns-in-Err-clause-is : goal.returns-in-Err-clause-is
returns-in-Err-clause-is c = part_of_refused c.args.kind (place_at c.args.place c.args.bytes.now) c.in-Err.cause c.in-Err.ensures.is

pub returns-then-cut-kind-clause-is : goal.returns-then-cut-kind-clause-is
returns-then-cut-kind-clause-is c = part_of_found c.args.kind (place_at c.args.place c.args.bytes.now) (cut_of c.in-Ok.cut) c.in-Ok.ensures.is c.if-cut-kind.true

pub returns-else-cut-kind-clause-is : goal.returns-else-cut-kind-clause-is
returns-else-cut-kind-clause-is c = part_of_other c.args.kind (place_at c.args.place c.args.bytes.now) (cut_of c.in-Ok.cut) c.in-Ok.ensures.is c.if-cut-kind.false
