use Rattle.std.proofs.Common.{◌≡◌, map, ap, ◌∙◌}
use Rattle.records.specs.Numbers.{Bytes}
use Rattle.records.proofs.Numbers.{bytes_from, bytes_are}
use Rattle.form_format.specs.Lent.{form_lent, forms_lent}
use Rattle.form_format.proofs.Whole.{made}
use Rattle.form_format.proofs.Told.{told_forms, no_forms}
use Rattle.form_read.proofs.Stops.{at_fault}
use Rattle.form_read.proofs.index.index.Goals as goal

pub returns-in-Ok : goal.returns-in-Ok
returns-in-Ok c =
    let bs = c.args.bytes.now in
    let b : Bytes bs = bytes_from bs c.type_inv.bytes in
    let t = c.in-Ok.ensures (ap (map form_lent) c.new.ensures.items, ap (map (λ x. x.now)) c.new-2.ensures.items) in
    record { typed = bytes_are bs b; law = made bs b; forms = told_forms bs t.0 _ t.1 t.2.0 }

pub returns-in-Err-Fault : goal.returns-in-Err-Fault
returns-in-Err-Fault c =
    let bs = c.args.bytes.now in
    let b : Bytes bs = bytes_from bs c.type_inv.bytes in
    let told = c.in-Err-Fault.ensures (ap (map form_lent) c.new.ensures.items, ap (map (λ x. x.now)) c.new-2.ensures.items) in
    let t = at_fault (λ fs ms. (forms_lent c.tell_set.new.sink.forms ≡ fs) × (form_lent c.tell_set.new.sink.names ≡ ms)) bs _ _ c.in-Err-Fault.field-0-is told in
    record { typed = bytes_are bs b; law = made bs b; forms = ap (map form_lent) c.new-in-Err-Fault.ensures.items ∙ no_forms bs _ t }

pub returns : goal.returns
returns c =
    let bs = c.args.bytes.now in
    let b : Bytes bs = bytes_from bs c.type_inv.bytes in
    record { typed = bytes_are bs b; law = made bs b; forms = tt }
