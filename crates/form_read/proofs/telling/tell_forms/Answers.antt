use Rattle.std.proofs.Common.{[], ◌∷◌, ◌++◌, Err, ap, ◌∙◌, arith}
use Rattle.records.specs.Read.{place_of, part_read}
use Rattle.form_format.specs.Reading.{form}
use Rattle.form_format.proofs.Going.{going_start, going_more, going_fault, going_end}
use Rattle.form_format.proofs.Steps.{form_read, form_refused, form_shrinks, forms_full}
use Rattle.records.proofs.Results.{passed, told_ok}
use Rattle.form_read.proofs.Stops.{set_stopped}
use Rattle.form_read.proofs.telling.tell_forms.Goals as goal

pub loop-before-init : goal.loop-before-init
loop-before-init g c = λ t. ([], t, going_start form form_shrinks (place_of c.args.start))

pub returns-then-is_at_end : goal.returns-then-is_at_end
returns-then-is_at_end g c = λ t.
    let i = c.loop-before.invariant t in
    (i.0, going_end form _ i.0 c.loop-before._before (place_of c.loop-before.rest) i.2 c.if-is_at_end.ensures, i.1)

pub returns-in_err-record : goal.returns-in_err-record
returns-in_err-record g c =
    rw (passed c.from_residual.result c.from_residual.ensures) (λ t.
    let i = c.loop-before.invariant t in
    let here = place_of c.loop-before.rest in
    going_fault form _ i.0 c.loop-before._before here i.2 _ c.if-is_at_end.ensures (form_refused c.loop-before._before here _ (c.in_err-record.ensures.is c.loop-before._before (omega arith))))

pub returns-in_err-tell_names : goal.returns-in_err-tell_names
returns-in_err-tell_names g c =
    rw (passed c.from_residual-in_err-tell_names.result c.from_residual-in_err-tell_names.ensures) (λ t.
    let i = c.loop-before.invariant t in
    set_stopped (g.S.FormSink.told c.tell_names.new.sink) c.in_err-tell_names.field-0.0 (place_of c.args.start) i.0 c.loop-before._before (place_of c.loop-before.rest) (part_read c.in_ok-record.record) i.2 c.if-is_at_end.ensures (c.in_ok-record.ensures.is c.loop-before._before (omega arith))
    (c.in_err-tell_names.ensures i.0 [] i.1))

pub loop-before-preserved : goal.loop-before-preserved
loop-before-preserved g c = λ t.
    let i = c.loop-before.invariant t in
    let here = place_of c.loop-before.rest in
    let r = part_read c.in_ok-record.record in
    let n = c.in_ok-tell_names.ensures i.0 [] i.1 in (
      i.0 ++ n.0 ∷ [],
      told_ok c.form.result c.map_err.result _ c.in_ok-map_err.was c.map_err.ensures.variant (c.form.ensures i.0 n.0 n.2),
      going_more form _ i.0 c.loop-before._before here i.2 form_shrinks n.0 r.after c.if-is_at_end.ensures (form_read c.loop-before._before here r n.0 (c.in_ok-record.ensures.is c.loop-before._before (omega arith)) n.1),
    )

pub returns-in_err-full_at : goal.returns-in_err-full_at
returns-in_err-full_at g c =
    rw (passed c.from_residual-in_err-full_at.result c.from_residual-in_err-full_at.ensures) (λ t.
    let i = c.loop-before.invariant t in
    let here = place_of c.loop-before.rest in
    let k = c.in_err-full_at.ensures in
    going_fault form _ i.0 c.loop-before._before here i.2 _ k.1 (form_refused c.loop-before._before here _ (ap Err k.0 ∙ forms_full c.loop-before._before here (omega (arith, c.loop-before-test.false)))))

pub returns : goal.returns
returns g c = λ t.
    let i = c.loop-before.invariant t in
    (i.0, going_end form _ i.0 c.loop-before._before (place_of c.loop-before.rest) i.2 c.in_ok-full_at.ensures, i.1)
