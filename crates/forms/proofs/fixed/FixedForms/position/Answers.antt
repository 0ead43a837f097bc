use Rattle.std.proofs.Common.{length, sym, refl, ap, ◌∙◌, arith}
use Rattle.std.proofs.lemmas.List.{length-map}
use Rattle.forms.specs.Forms.{nth, form_of}
use Rattle.forms.specs.Fixed.{fixed_forms, fixed_lawful}
use Rattle.forms.specs.Keys.{spelled}
use Rattle.forms.specs.Lent.{key_of}
use Rattle.forms.proofs.Members.{nth_map, nth_map_past, position_found, position_more, position_none, form_few}
use Rattle.forms.proofs.fixed.FixedForms.position.Goals as goal

pub loop-i-init : goal.loop-i-init
loop-i-init c = refl

pub overflow_cast-result : goal.overflow_cast-result
overflow_cast-result c =
    let few = form_few fixed_forms c.args.form fixed_lawful in
    let e = ap length c.names-names.ensures in
    let m = length-map c.names-names.result.now (λ x. x.now) in
    omega (arith, c.loop-i-test.true)

pub returns-then-spells : goal.returns-then-spells
returns-then-spells c =
    position_found (form_of fixed_forms c.args.form) (spelled (key_of c.args.key)) _ c.loop-i.i c.loop-i.invariant
    (ap (λ l. nth l c.loop-i.i) (sym c.names-names.ensures) ∙ nth_map (λ x. x.now) _ c.names-names.result.now c.loop-i.i c.loop-i-test.true)
    c.if-spells.ensures

pub loop-i-preserved : goal.loop-i-preserved
loop-i-preserved c =
    position_more (form_of fixed_forms c.args.form) (spelled (key_of c.args.key)) _ c.loop-i.i c.loop-i.invariant
    (ap (λ l. nth l c.loop-i.i) (sym c.names-names.ensures) ∙ nth_map (λ x. x.now) _ c.names-names.result.now c.loop-i.i c.loop-i-test.true)
    c.if-spells.ensures

pub returns : goal.returns
returns c =
    position_none (form_of fixed_forms c.args.form) (spelled (key_of c.args.key)) c.loop-i.i c.loop-i.invariant
    (ap (λ l. nth l c.loop-i.i) (sym c.names-names.ensures) ∙ nth_map_past (λ x. x.now) c.names-names.result.now c.loop-i.i c.loop-i-test.false)
