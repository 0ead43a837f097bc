use Rattle.std.proofs.Common.{subst}
use Rattle.form_read.specs.Told.{ToldForms}
use Rattle.form_read.proofs.Stops.{set_told}
use Rattle.form_read.proofs.telling.tell_set.Goals as goal

pub returns : goal.returns
returns g c = λ t.
    let w = c.in_ok-start.ensures in
    let told = g.S.FormSink.told c.tell_forms.new.sink in
    set_told told c.args.bytes.now c.tell_forms.result w.0 (subst (λ z. ToldForms told z c.tell_forms.result) w.1 (c.tell_forms.ensures t))
