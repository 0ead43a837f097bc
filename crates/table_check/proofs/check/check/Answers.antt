use Rattle.std.proofs.Common.{length, refl, ◌∙◌, arith}
use Rattle.std.proofs.lemmas.Result.{err_from_is_err_and}
use Rattle.layout.proofs.Checking.{checked_by, told}
use Rattle.table_check.specs.Given.{given as tables_in}
use Rattle.table_check.proofs.check.check.Goals as goal

pub returns-in_err-judge_nodes : goal.returns-in_err-judge_nodes
returns-in_err-judge_nodes c =
    let t = tables_in c.args.source in
    let p = err_from_is_err_and c.from_residual-in_err-judge_nodes.result c.from_residual-in_err-judge_nodes.ensures.1 in
    told t _ (p.1 ∙ rw p.2 (checked_by t _ _ _ _ _ c.in_ok-limit.ensures (c.in_err-judge_nodes.ensures (length t.nodes) (omega arith)) refl refl refl))

pub returns-in_err-judge_entries : goal.returns-in_err-judge_entries
returns-in_err-judge_entries c =
    let t = tables_in c.args.source in
    let p = err_from_is_err_and c.from_residual-in_err-judge_entries.result c.from_residual-in_err-judge_entries.ensures.1 in
    told t _ (p.1 ∙ rw p.2 (checked_by t _ _ _ _ _ c.in_ok-limit.ensures (c.in_ok-judge_nodes.ensures (length t.nodes) (omega arith)) c.in_ok-limit-2.ensures c.in_err-judge_entries.ensures refl))

pub returns : goal.returns
returns c =
    let t = tables_in c.args.source in
    told t _ (checked_by t _ _ _ _ _ c.in_ok-limit.ensures (c.in_ok-judge_nodes.ensures (length t.nodes) (omega arith)) c.in_ok-limit-2.ensures c.in_ok-judge_entries.ensures c.in_ok-limit-3.ensures)
