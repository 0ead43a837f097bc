use Rattle.std.proofs.Common.{◌-◌, arith}
use Rattle.index.specs.Keys.{keys}
use Rattle.index.proofs.Searching.{keys_length, key_at, rising_more}
use Rattle.index.proofs.sorted.rises.Goals as goal

pub returns-then-items-i : goal.returns-then-items-i
returns-then-items-i g c rising =
    let xs = c.args.items.now in
    let long = keys_length xs in
    let a = key_at xs (c.loop-i.i - 1) c.index-items-i.result (omega arith) in
    let b = key_at xs c.loop-i.i c.index-items-i-in-loop-i.result (omega arith) in
    let r = rising (c.loop-i.i - 1) c.loop-i.i (omega arith) (omega arith) in
    omega (arith, c.if-items-i.true)

pub loop-i-preserved : goal.loop-i-preserved
loop-i-preserved g c =
    let xs = c.args.items.now in
    let a = key_at xs (c.loop-i.i - 1) c.index-items-i.result (omega arith) in
    let b = key_at xs c.loop-i.i c.index-items-i-in-loop-i.result (omega arith) in
    (omega arith, rising_more (keys xs) c.loop-i.i (omega arith) c.loop-i.invariant.1 (omega (arith, c.if-items-i.false)))

pub returns : goal.returns
returns g c =
    let long = keys_length c.args.items.now in
    λ i j a b. c.loop-i.invariant.1 i j a (omega arith)
