use Rattle.std.proofs.Common.{refl, rules}
use Rattle.records.specs.Read.{place_of}
use Rattle.image_read.proofs.Found.{spanned_short, spanned_long}
use Rattle.image_read.proofs.parts.behind_span.Goals as goal

pub returns-then-body-lt8-clause-is : goal.returns-then-body-lt8-clause-is
returns-then-body-lt8-clause-is c = rw c.fault.ensures (spanned_short (place_of c.args.p) (place_of c.args.body) (search rules))

pub returns-clause-is : goal.returns-clause-is
returns-clause-is c = spanned_long (place_of c.args.p) (place_of c.args.body) _ (search rules) refl
