use Rattle.std.proofs.Common.{◌≡◌, length, ap, ◌∙◌, arith}
use Rattle.std.proofs.lemmas.Result.{err_from_is_err_and}
use Rattle.layout.specs.Tables.{judged, next}
use Rattle.layout.proofs.Steps.{judges_none}
use Rattle.table_check.specs.Given.{given as tables_in}
use Rattle.table_check.proofs.Beside.{refused_here, refused_below, passed}
use Rattle.table_check.proofs.check.+judge_nodes.Goals as goal

pub returns-in_err-judge : goal.returns-in_err-judge
returns-in_err-judge t c =
    let p = err_from_is_err_and c.from_residual.result c.from_residual.ensures.1 in
    let gives = c.in-Some.ensures.steps in
    rw (p.1, p.2) (c.loop-i.invariant.said _ (refused_here (tables_in c.args.source) c.args.nesting c.args.to c.in-Some.i _ gives.row (omega arith) _ (c.in_err-judge.ensures ∙ ap (judged _ _) c.node_cause.ensures)))

pub returns-in_err-judge_nodes : goal.returns-in_err-judge_nodes
returns-in_err-judge_nodes t c =
    let p = err_from_is_err_and c.from_residual-in_err-judge_nodes.result c.from_residual-in_err-judge_nodes.ensures.1 in
    let gives = c.in-Some.ensures.steps in
    let rows = c.loop-i.invariant.rows in
    let end : c.in-Some.end ≡ next (tables_in c.args.source) c.in-Some.i = cc in
    rw (p.1, p.2) (c.loop-i.invariant.said _ (refused_below (tables_in c.args.source) c.args.nesting c.args.to c.in-Some.i _ gives.row (omega arith) c.in-Some.end _ end (c.in_ok-judge.ensures ∙ ap (judged _ _) c.node_cause.ensures) c.in_err-judge_nodes.ensures))

pub loop-i-preserved : goal.loop-i-preserved
loop-i-preserved t c =
    let gives = c.in-Some.ensures.steps in
    let rows = c.loop-i.invariant.rows in
    let end : c.in-Some.end ≡ next (tables_in c.args.source) c.in-Some.i = cc in
    record {
      rows = gives.rows ∙ rows;
      to = gives.to ∙ c.loop-i.invariant.to;
      from = omega arith;
      said = λ r on. c.loop-i.invariant.said r (passed (tables_in c.args.source) c.args.nesting c.args.to c.in-Some.i _ gives.row (omega arith) c.in-Some.end _ r end gives.at (c.in_ok-judge.ensures ∙ ap (judged _ _) c.node_cause.ensures) c.in_ok-judge_nodes.ensures on);
    }

pub returns : goal.returns
returns t c =
    let none = c.in-None.ensures.steps in
    let rows = ap (λ xs. length xs) c.loop-i.invariant.rows in
    c.loop-i.invariant.said _ (judges_none (tables_in c.args.source) c.args.nesting c.loop-i.i-iterator.at c.args.to (omega arith))
