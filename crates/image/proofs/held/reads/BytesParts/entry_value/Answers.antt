use Rattle.std.proofs.Common.{◌≡◌}
use Rattle.linked.proofs.Cases.{on_some}
use Rattle.tree.specs.Going.{found_entry}
use Rattle.image_format.specs.Reading.{document_in}
use Rattle.image.proofs.held.reads.BytesParts.entry_value.Goals as goal

pub returns : goal.returns
returns c = on_some (found_entry (document_in c.args.self.now.bytes.now) c.args.e) _ (λ s is.
    let h = c.in_ok-entry.ensures in
    let told = rw is at h in
    let same : s ≡ told.spot = cc in
    let says = told.says.value in
    rw is cc)
