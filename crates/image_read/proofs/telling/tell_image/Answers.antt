use Rattle.std.proofs.Common.{◌≡◌, length, Ok, Err, refl, ap, subst, arith}
use Rattle.records.specs.Places.{Place}
use Rattle.records.specs.Read.{part_read}
use Rattle.records.proofs.Results.{passed}
use Rattle.image_format.specs.Reading.{part_of}
use Rattle.image_format.proofs.Runs.{stop, go}
use Rattle.image_format.proofs.Linking.{image_filled}
use Rattle.image_read.proofs.Tells.{image_stopped}
use Rattle.image_read.proofs.telling.tell_image.Goals as goal

pub returns-in_err-record : goal.returns-in_err-record
returns-in_err-record g c =
    let w = c.in_ok-whole.ensures in
    rw (passed c.from_residual-in_err-record.result c.from_residual-in_err-record.ensures) (λ x told. image_filled c.args.bytes.now x _ w.0 (stop _ _ _ (subst (λ z. Err c.in_err-record.field-0.0 ≡ part_of 1 z) w.1 c.in_err-record.ensures.is)))

pub returns-in_err-tell_nodes : goal.returns-in_err-tell_nodes
returns-in_err-tell_nodes g c =
    let w = c.in_ok-whole.ensures in
    let k = c.in_ok-record.ensures.sizes in
    let l = ap (λ (q : Place). length q.bytes) w.1 in
    rw (passed c.from_residual-in_err-tell_nodes.result c.from_residual-in_err-tell_nodes.ensures) (λ x told. image_stopped (g.S.Sink.told c.tell_nodes.new.sink) c.in_err-tell_nodes.field-0.0 c.args.bytes.now x (part_read c.in_ok-record.record) w.0 (subst (λ z. Ok (part_read c.in_ok-record.record) ≡ part_of 1 z) w.1 c.in_ok-record.ensures.is) (omega arith) (c.in_err-tell_nodes.ensures x told))

pub returns-in_err-end_at : goal.returns-in_err-end_at
returns-in_err-end_at g c =
    let w = c.in_ok-whole.ensures in
    let k = c.in_ok-record.ensures.sizes in
    let l = ap (λ (q : Place). length q.bytes) w.1 in
    rw (passed c.from_residual-in_err-end_at.result c.from_residual-in_err-end_at.ensures) (λ x told. let n = c.in_ok-tell_nodes.ensures x told in image_filled c.args.bytes.now x _ w.0 (go _ _ _ _ (subst (λ z. Ok (part_read c.in_ok-record.record) ≡ part_of 1 z) w.1 c.in_ok-record.ensures.is) (go _ _ _ _ (n.1 _ (omega arith)) (stop _ _ _ c.in_err-end_at.ensures))))

pub returns : goal.returns
returns g c =
    let w = c.in_ok-whole.ensures in
    let k = c.in_ok-record.ensures.sizes in
    let l = ap (λ (q : Place). length q.bytes) w.1 in
    λ x told. let n = c.in_ok-tell_nodes.ensures x told in
    (n.0, image_filled c.args.bytes.now x _ w.0 (go _ _ _ _ (subst (λ z. Ok (part_read c.in_ok-record.record) ≡ part_of 1 z) w.1 c.in_ok-record.ensures.is) (go _ _ _ _ (n.1 _ (omega arith)) (go _ _ _ _ c.in_ok-end_at.ensures refl))), n.2)
