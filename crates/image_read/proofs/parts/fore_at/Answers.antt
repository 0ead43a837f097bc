use Rattle.std.proofs.Common.{sym, refl, ◌∙◌, arith}
use Rattle.std.proofs.lemmas.Bool.{le-leb, cond-true}
use Rattle.records.proofs.Results.{passed}
use Rattle.image_format.proofs.Runs.{stop, go}
use Rattle.image_format.proofs.Passing.{fore_passes}
use Rattle.records.specs.Read.{place_of}
use Rattle.image_read.proofs.parts.fore_at.Goals as goal

pub returns-in_err-record-clause-is : goal.returns-in_err-record-clause-is
returns-in_err-record-clause-is c =
    rw (passed c.from_residual.result c.from_residual.ensures) (stop _ _ _ c.in_err-record.ensures.is ∙ sym (fore_passes c.args.nesting (place_of c.args.p)))

pub returns-in_err-start-clause-is : goal.returns-in_err-start-clause-is
returns-in_err-start-clause-is c =
    rw (passed c.from_residual-in_err-start.result c.from_residual-in_err-start.ensures) (go _ _ _ _ c.in_ok-record.ensures.is (stop _ _ _ (c.in_err-start.ensures.is ∙ sym (cond-true _ _ _ (le-leb c.args.nesting 32 (omega arith))))) ∙ sym (fore_passes c.args.nesting (place_of c.args.p)))

pub returns-in_err-named-clause-is : goal.returns-in_err-named-clause-is
returns-in_err-named-clause-is c =
    rw (passed c.from_residual-in_err-named.result c.from_residual-in_err-named.ensures) (go _ _ _ _ c.in_ok-record.ensures.is (go _ _ _ _ (c.in_ok-start.ensures.is ∙ sym (cond-true _ _ _ (le-leb c.args.nesting 32 (omega arith)))) (stop _ _ _ c.in_err-named.ensures.is)) ∙ sym (fore_passes c.args.nesting (place_of c.args.p)))

pub returns-in_err-typed-clause-is : goal.returns-in_err-typed-clause-is
returns-in_err-typed-clause-is c =
    rw (passed c.from_residual-in_err-typed.result c.from_residual-in_err-typed.ensures) (go _ _ _ _ c.in_ok-record.ensures.is (go _ _ _ _ (c.in_ok-start.ensures.is ∙ sym (cond-true _ _ _ (le-leb c.args.nesting 32 (omega arith)))) (go _ _ _ _ c.in_ok-named.ensures.is (stop _ _ _ c.in_err-typed.ensures.is))) ∙ sym (fore_passes c.args.nesting (place_of c.args.p)))

pub returns-clause-is : goal.returns-clause-is
returns-clause-is c = go _ _ _ _ c.in_ok-record.ensures.is (go _ _ _ _ (c.in_ok-start.ensures.is ∙ sym (cond-true _ _ _ (le-leb c.args.nesting 32 (omega arith)))) (go _ _ _ _ c.in_ok-named.ensures.is (go _ _ _ _ c.in_ok-typed.ensures.is refl))) ∙ sym (fore_passes c.args.nesting (place_of c.args.p))
