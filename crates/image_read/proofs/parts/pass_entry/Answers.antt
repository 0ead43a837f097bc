use Rattle.std.proofs.Common.{sym, refl, ◌∙◌}
use Rattle.records.specs.Read.{place_of}
use Rattle.records.proofs.Results.{passed}
use Rattle.image_format.proofs.Runs.{stop, go}
use Rattle.image_format.proofs.Passing.{entry_passes}
use Rattle.image_read.proofs.parts.pass_entry.Goals as goal

pub returns-in_err-record-clause-is : goal.returns-in_err-record-clause-is
returns-in_err-record-clause-is c =
    rw (passed c.from_residual.result c.from_residual.ensures) (stop _ _ _ c.in_err-record.ensures.is ∙ sym (entry_passes (place_of c.args.p)))

pub returns-in_err-start-clause-is : goal.returns-in_err-start-clause-is
returns-in_err-start-clause-is c =
    rw (passed c.from_residual-in_err-start.result c.from_residual-in_err-start.ensures) (go _ _ _ _ c.in_ok-record.ensures.is (stop _ _ _ c.in_err-start.ensures.is) ∙ sym (entry_passes (place_of c.args.p)))

pub returns-in_err-named-clause-is : goal.returns-in_err-named-clause-is
returns-in_err-named-clause-is c =
    rw (passed c.from_residual-in_err-named.result c.from_residual-in_err-named.ensures) (go _ _ _ _ c.in_ok-record.ensures.is (go _ _ _ _ c.in_ok-start.ensures.is (stop _ _ _ c.in_err-named.ensures.is)) ∙ sym (entry_passes (place_of c.args.p)))

pub returns-in_err-typed-clause-is : goal.returns-in_err-typed-clause-is
returns-in_err-typed-clause-is c =
    rw (passed c.from_residual-in_err-typed.result c.from_residual-in_err-typed.ensures) (go _ _ _ _ c.in_ok-record.ensures.is (go _ _ _ _ c.in_ok-start.ensures.is (go _ _ _ _ c.in_ok-named.ensures.is (stop _ _ _ c.in_err-typed.ensures.is))) ∙ sym (entry_passes (place_of c.args.p)))

pub returns-in_err-valued-clause-is : goal.returns-in_err-valued-clause-is
returns-in_err-valued-clause-is c =
    rw (passed c.from_residual-in_err-valued.result c.from_residual-in_err-valued.ensures) (go _ _ _ _ c.in_ok-record.ensures.is (go _ _ _ _ c.in_ok-start.ensures.is (go _ _ _ _ c.in_ok-named.ensures.is (go _ _ _ _ c.in_ok-typed.ensures.is (stop _ _ _ c.in_err-valued.ensures.is)))) ∙ sym (entry_passes (place_of c.args.p)))

pub returns-in_err-end_at-clause-is : goal.returns-in_err-end_at-clause-is
returns-in_err-end_at-clause-is c =
    rw (passed c.from_residual-in_err-end_at.result c.from_residual-in_err-end_at.ensures) (go _ _ _ _ c.in_ok-record.ensures.is (go _ _ _ _ c.in_ok-start.ensures.is (go _ _ _ _ c.in_ok-named.ensures.is (go _ _ _ _ c.in_ok-typed.ensures.is (go _ _ _ _ c.in_ok-valued.ensures.is (stop _ _ _ c.in_err-end_at.ensures))))) ∙ sym (entry_passes (place_of c.args.p)))

pub returns-clause-is : goal.returns-clause-is
returns-clause-is c = go _ _ _ _ c.in_ok-record.ensures.is (go _ _ _ _ c.in_ok-start.ensures.is (go _ _ _ _ c.in_ok-named.ensures.is (go _ _ _ _ c.in_ok-typed.ensures.is (go _ _ _ _ c.in_ok-valued.ensures.is (go _ _ _ _ c.in_ok-end_at.ensures refl))))) ∙ sym (entry_passes (place_of c.args.p))
