use Rattle.std.proofs.Common.{◌≡◌, ◌+◌, min, length, refl}
use Rattle.records.specs.Numbers.{Bytes}
use Rattle.records.proofs.Numbers.{bytes_from}
use Rattle.form_format.specs.Law.{names_count}
use Rattle.form_format.proofs.Told.{accepts, told_counts, told_fault}
use Rattle.form_format.proofs.Whole.{unique}
use Rattle.form_read.proofs.Stops.{at_fault}
use Rattle.form_read.proofs.check.check.Goals as goal

pub returns-in-Ok : goal.returns-in-Ok
returns-in-Ok c =
    let bs = c.args.bytes.now in
    let b : Bytes bs = bytes_from bs c.type_inv.bytes in
    let t = c.in-Ok.ensures (refl, refl) in
    let a = told_counts bs b t.0 _ _ t.1 t.2.0 t.2.1 in
    record { answer = a; exact = accepts bs _ b a; unique = unique bs }

pub returns-in-Err-Fault : goal.returns-in-Err-Fault
returns-in-Err-Fault c =
    let bs = c.args.bytes.now in
    let b : Bytes bs = bytes_from bs c.type_inv.bytes in
    let t = at_fault (λ fs ms. (c.tell_set.new.sink.forms ≡ min (length fs) 4294967295) × (c.tell_set.new.sink.names ≡ min (names_count fs + length ms) 4294967295)) bs _ _ c.in-Err-Fault.field-0-is (c.in-Err-Fault.ensures (refl, refl)) in
    let a = told_fault bs c.in-Err-Fault.fault t in
    rw c.in-Err-Fault.fault-is (record { answer = a; exact = accepts bs _ b a; unique = unique bs })
