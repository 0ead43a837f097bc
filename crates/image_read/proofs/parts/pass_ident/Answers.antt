use Rattle.std.proofs.Common.{refl}
use Rattle.records.proofs.Results.{passed}
use Rattle.image_format.specs.Reading.{ident}
use Rattle.image_format.proofs.Passing.{behind}
use Rattle.image_format.proofs.Runs.{stops, stops_over, goes_on, goes_over}
use Rattle.image_read.proofs.parts.pass_ident.Goals as goal

pub returns-in_err-record-clause-is : goal.returns-in_err-record-clause-is
unfolding ident
returns-in_err-record-clause-is c =
    rw (passed c.from_residual.result c.from_residual.ensures) (stops _ _ _ _ c.in_err-record.ensures.is)

pub returns-in_err-behind_span-clause-is : goal.returns-in_err-behind_span-clause-is
unfolding ident
returns-in_err-behind_span-clause-is c =
    rw (passed c.from_residual-in_err-behind_span.result c.from_residual-in_err-behind_span.ensures) (goes_on _ _ _ _ _ c.in_ok-record.ensures.is (stops_over _ behind _ _ _ c.in_err-behind_span.ensures.is))

pub returns-clause-is : goal.returns-clause-is
unfolding ident
returns-clause-is c = goes_on _ _ _ _ _ c.in_ok-record.ensures.is (goes_over _ behind _ _ _ _ c.in_ok-behind_span.ensures.is (λ x e. refl))
