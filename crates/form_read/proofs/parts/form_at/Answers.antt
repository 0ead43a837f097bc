use Rattle.std.proofs.Common.{◌∙◌}
use Rattle.records.specs.Read.{place_of}
use Rattle.form_format.proofs.Steps.{form_below}
use Rattle.form_read.proofs.parts.form_at.Goals as goal

pub returns-clause-is : goal.returns-clause-is
returns-clause-is c = λ n l. c.record_of.ensures.is ∙ form_below n (place_of c.args.p) l
