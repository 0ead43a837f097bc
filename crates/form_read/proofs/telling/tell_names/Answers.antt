use Rattle.std.proofs.Common.{[], ◌∷◌, ◌++◌, Err, sym, ap, ◌∙◌, subst, append_assoc, append-nil, arith}
use Rattle.records.specs.Read.{place_of, part_read}
use Rattle.form_format.specs.Reading.{name}
use Rattle.form_format.proofs.Going.{going_start, going_more, going_fault, going_end}
use Rattle.form_format.proofs.Steps.{name_read, name_refused, name_shrinks, names_full}
use Rattle.records.proofs.Results.{passed, told_ok}
use Rattle.form_read.proofs.telling.tell_names.Goals as goal

pub loop-before-init : goal.loop-before-init
loop-before-init g c = λ fs ms t. ([], subst (g.S.FormSink.told c.args.sink.now fs) (sym (append-nil ms)) t, going_start name name_shrinks (place_of c.args.start))

pub returns-then-is_at_end : goal.returns-then-is_at_end
returns-then-is_at_end g c = λ fs ms t.
    let i = c.loop-before.invariant fs ms t in
    (i.0, going_end name _ i.0 c.loop-before._before (place_of c.loop-before.rest) i.2 c.if-is_at_end.ensures, i.1)

pub returns-in_err-record : goal.returns-in_err-record
returns-in_err-record g c =
    rw (passed c.from_residual.result c.from_residual.ensures) (λ fs ms t.
    let i = c.loop-before.invariant fs ms t in
    let here = place_of c.loop-before.rest in
    going_fault name _ i.0 c.loop-before._before here i.2 _ c.if-is_at_end.ensures (name_refused c.loop-before._before here _ (c.in_err-record.ensures.is c.loop-before._before (omega arith))))

pub loop-before-preserved : goal.loop-before-preserved
loop-before-preserved g c = λ fs ms t.
    let i = c.loop-before.invariant fs ms t in
    let here = place_of c.loop-before.rest in
    let r = part_read c.in_ok-record.record in
    let m = r.body.bytes in (
      i.0 ++ m ∷ [],
      subst (g.S.FormSink.told c.name.new.self fs) (append_assoc ms i.0 (m ∷ [])) (told_ok c.name.result c.map_err.result _ c.in_ok-map_err.was c.map_err.ensures.variant (c.name.ensures fs (ms ++ i.0) i.1)),
      going_more name _ i.0 c.loop-before._before here i.2 name_shrinks m r.after c.if-is_at_end.ensures (name_read c.loop-before._before here r (c.in_ok-record.ensures.is c.loop-before._before (omega arith))),
    )

pub returns-in_err-full_at : goal.returns-in_err-full_at
returns-in_err-full_at g c =
    rw (passed c.from_residual-in_err-full_at.result c.from_residual-in_err-full_at.ensures) (λ fs ms t.
    let i = c.loop-before.invariant fs ms t in
    let here = place_of c.loop-before.rest in
    let k = c.in_err-full_at.ensures in
    going_fault name _ i.0 c.loop-before._before here i.2 _ k.1 (name_refused c.loop-before._before here _ (ap Err k.0 ∙ names_full c.loop-before._before here (omega (arith, c.loop-before-test.false)))))

pub returns : goal.returns
returns g c = λ fs ms t.
    let i = c.loop-before.invariant fs ms t in
    (i.0, going_end name _ i.0 c.loop-before._before (place_of c.loop-before.rest) i.2 c.in_ok-full_at.ensures, i.1)
