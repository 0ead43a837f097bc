use Rattle.records.proofs.Results.{passed}
use Rattle.image_format.specs.Reading.{value}
use Rattle.records.specs.Read.{place_of}
use Rattle.image_format.proofs.Runs.{stops, goes_on}
use Rattle.image_format.proofs.Passing.{value_wrong, value_right}
use Rattle.image_read.proofs.parts.pass_value.Goals as goal

pub returns-in_err-record-clause-is : goal.returns-in_err-record-clause-is
unfolding value
returns-in_err-record-clause-is c =
    rw (passed c.from_residual.result c.from_residual.ensures) (stops _ _ _ _ c.in_err-record.ensures.is)

pub returns-in-Some-clause-is : goal.returns-in-Some-clause-is
unfolding value
returns-in-Some-clause-is c = rw c.fault.ensures (goes_on _ _ _ _ _ c.in_ok-record.ensures.is (value_wrong (place_of c.args.p) _ _ _ c.in-Some.ensures))

pub returns-in-None-clause-is : goal.returns-in-None-clause-is
unfolding value
returns-in-None-clause-is c = goes_on _ _ _ _ _ c.in_ok-record.ensures.is (value_right (place_of c.args.p) _ _ c.in-None.ensures)
