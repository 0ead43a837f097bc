use Rattle.std.proofs.Common.{◌≡◌, [], vec_items, ◌∙◌}
use Rattle.image_format.proofs.Made.{told_links, no_links}
use Rattle.image_read.proofs.Tells.{at_fault}
use Rattle.image_read.proofs.links.keep_all.Goals as goal

pub returns-in-Ok : goal.returns-in-Ok
returns-in-Ok c =
    let t = c.in-Ok.ensures ([], []) (c.new.ensures.items, c.new-2.ensures.items) in
    let l = told_links c.args.bytes.now t.0 t.1 in
    record { nodes = t.2.0 ∙ l.0; entries = t.2.1 ∙ l.1 }

pub returns-in-Err-Fault : goal.returns-in-Err-Fault
returns-in-Err-Fault c =
    let bs = c.args.bytes.now in
    let told = c.in-Err-Fault.ensures ([], []) (c.new.ensures.items, c.new-2.ensures.items) in
    let t = at_fault (λ ns es. (vec_items c.tell_image.new.sink.nodes ≡ ns) × (vec_items c.tell_image.new.sink.entries ≡ es)) ([], []) bs _ _ c.in-Err-Fault.field-0-is told in
    let l = no_links bs _ t in
    record { nodes = c.new-in-Err-Fault.ensures.items ∙ l.0; entries = c.new-in-Err-Fault-2.ensures.items ∙ l.1 }
