use Rattle.std.proofs.Common.{[], ◌∷◌, ◌++◌, sym, ap, arith}
use Rattle.index.specs.declared.keyed.Keyed.{Keyed}
use Rattle.index.specs.declared.link.EntryLink.{EntryLink}
use Rattle.image_format.proofs.Linking.{entries_end, entries_err, entries_on}
use Rattle.records.specs.Read.{place_of}
use Rattle.records.proofs.Results.{passed, told_ok}
use Rattle.image_read.proofs.telling.tell_entries.Goals as goal

pub returns-in_err-after-clause-is : goal.returns-in_err-after-clause-is
returns-in_err-after-clause-is g c =
    rw (passed c.from_residual.result c.from_residual.ensures) (λ ns es t. let i = c.loop-node.invariant.1 ns es t in i.2 _ (entries_err c.args.node i.0 (place_of c.loop-node.rest) _ (sym c.loop-node-test.ensures) c.in_err-after.ensures.is))

pub loop-node-preserved : goal.loop-node-preserved
loop-node-preserved g c =
    let k = c.in_ok-after.ensures in
    let less = k.shorter in
    let inv = c.loop-node.invariant in (
      omega arith,
      λ ns es t.
          let i = inv.1 ns es t in
          let link : Keyed EntryLink = record { key = c.loop-node.rest.at; value = record { node = c.args.node; next = c.first_entry.result } } in
          (i.0 ++ link ∷ [], told_ok c.entry.result c.map_err.result _ c.in_ok-map_err.was c.map_err.ensures.variant (c.entry.ensures ns i.0 i.1), λ r h. i.2 r (entries_on c.args.node i.0 _ (place_of c.loop-node.rest) (place_of c.in_ok-after.after) r (sym c.loop-node-test.ensures) k.is (omega arith) (ap (λ n. i.0 ++ record { key = c.loop-node.rest.at; value = record { node = c.args.node; next = n } } ∷ []) c.first_entry.ensures) h)),
    )

pub returns-clause-is : goal.returns-clause-is
returns-clause-is g c = λ ns es t. let i = c.loop-node.invariant.1 ns es t in (i.0, i.2 _ (entries_end c.args.node i.0 (place_of c.loop-node.rest) (sym c.loop-node-test.ensures)), i.1)
