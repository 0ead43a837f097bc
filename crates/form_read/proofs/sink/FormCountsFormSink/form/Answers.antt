use Rattle.std.proofs.Common.{[], ◌∷◌, arith, length-append}
use Rattle.form_format.proofs.Told.{count_more}
use Rattle.form_read.proofs.sink.FormCountsFormSink.form.Goals as goal

pub returns : goal.returns
returns c = λ fs ms t.
    let l = length-append fs (ms ∷ []) in
    let k = count_more fs ms in
    (omega (arith, t.0, c.saturating_add-self.ensures), omega (arith, t.1))
