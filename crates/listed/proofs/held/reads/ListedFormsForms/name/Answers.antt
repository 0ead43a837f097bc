use Rattle.std.proofs.Common.{slice_get, option_map, vec_items, ◌≤◌, sym, subst, ap, ◌∙◌}
use Rattle.std.proofs.lemmas.Option.{slice_get-map, slice_get_past, slice_get_read}
use Rattle.form_format.specs.Lent.{form_lent}
use Rattle.forms.specs.Forms.{form_or}
use Rattle.listed.proofs.Known.{lent_at, name_kept}
use Rattle.listed.proofs.held.reads.ListedFormsForms.name.Goals as goal

pub returns-in_err-names : goal.returns-in_err-names
returns-in_err-names c =
    let t = c.args.self.now in
    let none = ap (option_map (λ x. x.now)) (sym c.in_err-names.was) ∙ lent_at c.deref.result.now c.args.form c.get.result c.get.ensures.lookup ∙ ap (λ l. slice_get l c.args.form) c.deref.ensures.value in
    ap (option_map (λ x. x.now)) c.from_residual.ensures ∙ ap (λ o. slice_get (form_or (option_map form_lent o)) c.args.position) none ∙ sym (name_kept t c.args.form c.args.position)

pub returns-then-at-len : goal.returns-then-at-len
returns-then-at-len c =
    let t = c.args.self.now in
    let names = c.in_ok-names.names.now in
    let form = ap (option_map (λ x. x.now)) (sym c.in_ok-names.was) ∙ lent_at c.deref.result.now c.args.form c.get.result c.get.ensures.lookup ∙ ap (λ l. slice_get l c.args.form) c.deref.ensures.value in
    ap (option_map (λ x. x.now)) (sym (slice_get_read (vec_items names) c.len.result c.args.position c.index.result.now (c.len.ensures ∙ names.ok.0) c.if-at-len.true c.index.ensures))
    ∙ sym (slice_get-map (λ x. x.now) (vec_items names) c.args.position)
    ∙ ap (λ o. slice_get (form_or (option_map form_lent o)) c.args.position) form
    ∙ sym (name_kept t c.args.form c.args.position)

pub returns-else-at-len : goal.returns-else-at-len
returns-else-at-len c =
    let t = c.args.self.now in
    let names = c.in_ok-names.names.now in
    let form = ap (option_map (λ x. x.now)) (sym c.in_ok-names.was) ∙ lent_at c.deref.result.now c.args.form c.get.result c.get.ensures.lookup ∙ ap (λ l. slice_get l c.args.form) c.deref.ensures.value in
    ap (option_map (λ x. x.now)) (sym (slice_get_past (vec_items names) c.args.position (subst (λ n. n ≤ c.args.position) (c.len.ensures ∙ names.ok.0) c.if-at-len.false)))
    ∙ sym (slice_get-map (λ x. x.now) (vec_items names) c.args.position)
    ∙ ap (λ o. slice_get (form_or (option_map form_lent o)) c.args.position) form
    ∙ sym (name_kept t c.args.form c.args.position)
