use Rattle.std.proofs.Common.{sym, ◌∙◌}
use Rattle.std.proofs.lemmas.Bool.{cond-true, cond-false}
use Rattle.records.specs.Read.{place_of}
use Rattle.form_format.proofs.Steps.{name_below}
use Rattle.form_read.proofs.parts.name_at.Goals as goal

pub returns-then-is_too_long-clause-is : goal.returns-then-is_too_long-clause-is
returns-then-is_too_long-clause-is c = λ n l. rw c.fault.ensures (sym (cond-true _ _ _ (sym c.if-is_too_long.ensures)) ∙ name_below n (place_of c.args.p) l)

pub returns-clause-is : goal.returns-clause-is
returns-clause-is c = λ n l. c.record_of.ensures.is ∙ sym (cond-false _ _ _ (sym c.if-is_too_long.ensures)) ∙ name_below n (place_of c.args.p) l
