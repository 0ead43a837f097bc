use Rattle.std.proofs.Common.{[], ◌∷◌, ◌++◌, Some, refl, arith}
use Rattle.image_format.proofs.Runs.{stop, go}
use Rattle.image_format.proofs.Linking.{filled_end, filled_fore, block_filled}
use Rattle.records.specs.Read.{place_of, part_read}
use Rattle.image_read.specs.Lent.{aside_of}
use Rattle.records.proofs.Results.{passed, told_ok}
use Rattle.image_read.proofs.Tells.{nodes_on, block_stopped, entries_stopped, nodes_stopped}
use Rattle.image_read.proofs.telling.+tell_block_tell_nodes.Goals as goal

pub tell_block-returns-in_err-record : goal.tell_block-returns-in_err-record
tell_block-returns-in_err-record g t c =
    rw (passed c.from_residual.result c.from_residual.ensures) (λ x told. block_filled (Some c.args.holder) x c.args.nesting (place_of c.args.p) _ c.if-is_at_end.ensures (λ f l. stop _ _ _ c.in_err-record.ensures.is))

pub tell_block-returns-in_err-tell_nodes : goal.tell_block-returns-in_err-tell_nodes
tell_block-returns-in_err-tell_nodes g t c =
    let k = c.in_ok-record.ensures.sizes in
    rw (passed c.from_residual-in_err-tell_nodes.result c.from_residual-in_err-tell_nodes.ensures) (λ x told. block_stopped (g.S.Sink.told c.tell_nodes.new.sink) c.in_err-tell_nodes.field-0.0 (Some c.args.holder) x c.args.nesting (place_of c.args.p) (part_read c.in_ok-record.record) c.if-is_at_end.ensures c.in_ok-record.ensures.is (omega arith) (c.in_err-tell_nodes.ensures x told))

pub tell_block-returns-in_err-end_at : goal.tell_block-returns-in_err-end_at
tell_block-returns-in_err-end_at g t c =
    let k = c.in_ok-record.ensures.sizes in
    rw (passed c.from_residual-in_err-end_at.result c.from_residual-in_err-end_at.ensures) (λ x told. let n = c.in_ok-tell_nodes.ensures x told in block_filled (Some c.args.holder) x c.args.nesting (place_of c.args.p) _ c.if-is_at_end.ensures (λ f l. go _ _ _ _ c.in_ok-record.ensures.is (go _ _ _ _ (n.1 f (omega arith)) (stop _ _ _ c.in_err-end_at.ensures))))

pub tell_block-returns : goal.tell_block-returns
tell_block-returns g t c =
    let k = c.in_ok-record.ensures.sizes in
    λ x told. let n = c.in_ok-tell_nodes.ensures x told in
    (n.0, block_filled (Some c.args.holder) x c.args.nesting (place_of c.args.p) _ c.if-is_at_end.ensures (λ f l. go _ _ _ _ c.in_ok-record.ensures.is (go _ _ _ _ (n.1 f (omega arith)) (go _ _ _ _ c.in_ok-end_at.ensures refl))), n.2)

pub tell_nodes-returns-in_err-fore : goal.tell_nodes-returns-in_err-fore
tell_nodes-returns-in_err-fore g t c =
    rw (passed c.from_residual.result c.from_residual.ensures) (λ x told. let i = c.loop-rest.invariant.1 x told in i.2 _ (filled_fore _ _ _ _ c.loop-rest-test.ensures _ c.in_err-fore.ensures.is))

pub tell_nodes-returns-in_err-block : goal.tell_nodes-returns-in_err-block
tell_nodes-returns-in_err-block g t c =
    rw (passed c.from_residual-in_err-block.result c.from_residual-in_err-block.ensures) (λ x told. let i = c.loop-rest.invariant.1 x told in entries_stopped (g.S.Sink.told c.tell_entries.new.sink) c.args.parent x i.0 c.args.nesting (place_of c.loop-rest.rest) (place_of c.args.start) i.2 c.loop-rest-test.ensures (aside_of c.in_ok-fore.fore) c.in_ok-fore.ensures.is c.in_err-block.field-0.0 i.0.0 (c.in_err-block.ensures.is i.0.0 i.0.1 i.1))

pub tell_nodes-returns-in_err-tell_block : goal.tell_nodes-returns-in_err-tell_block
tell_nodes-returns-in_err-tell_block g t c =
    let k = c.in_ok-fore.ensures.forward.sizes in
    let b = c.in_ok-block.ensures.later in
    rw (passed c.from_residual-in_err-tell_block.result c.from_residual-in_err-tell_block.ensures) (λ x told.
    let i = c.loop-rest.invariant.1 x told in
    let es = c.in_ok-block.ensures.is i.0.0 i.0.1 i.1 in
    nodes_stopped (g.S.Sink.told c.tell_block.new.sink) c.args.parent x i.0 c.args.nesting (place_of c.loop-rest.rest) (place_of c.args.start) i.2 c.loop-rest-test.ensures (aside_of c.in_ok-fore.fore) c.in_ok-fore.ensures.is es.0 (place_of c.in_ok-block.block) es.1 (omega arith) c.in_err-tell_block.field-0.0 c.link_of-link.result c.link_of-link.ensures
    (c.in_err-tell_block.ensures (i.0.0 ++ c.link_of-link.result ∷ [], es.0) (told_ok c.node.result c.map_err.result _ c.in_ok-map_err.was c.map_err.ensures.variant (c.node.ensures i.0.0 es.0 es.2))))

pub tell_nodes-loop-rest-preserved : goal.tell_nodes-loop-rest-preserved
tell_nodes-loop-rest-preserved g t c =
    let k = c.in_ok-fore.ensures.forward in
    let sizes = k.sizes in
    let b = c.in_ok-block.ensures.later in
    let inv = c.loop-rest.invariant in (
      omega arith,
      λ x told.
          let i = inv.1 x told in
          let es = c.in_ok-block.ensures.is i.0.0 i.0.1 i.1 in
          let n = c.in_ok-tell_block.ensures (i.0.0 ++ c.link_of-link.result ∷ [], es.0) (told_ok c.node.result c.map_err.result _ c.in_ok-map_err.was c.map_err.ensures.variant (c.node.ensures i.0.0 es.0 es.2)) in
          (n.0, n.2, nodes_on c.args.parent x i.0 c.args.nesting (place_of c.loop-rest.rest) (place_of c.args.start) i.2 c.loop-rest-test.ensures (aside_of c.in_ok-fore.fore) c.in_ok-fore.ensures.is es.0 (place_of c.in_ok-block.block) es.1 (omega arith) c.link_of-link.result n.0 c.link_of-link.ensures (omega arith) n.1),
    )

pub tell_nodes-returns : goal.tell_nodes-returns
tell_nodes-returns g t c = λ x told. let i = c.loop-rest.invariant.1 x told in (i.0, i.2 _ (filled_end _ _ _ _ c.loop-rest-test.ensures), i.1)
