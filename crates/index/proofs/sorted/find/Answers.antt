use Rattle.std.proofs.Common.{◌+◌, ◌-◌, ◌/◌, ◌<◌, subst, sym, ap, ◌∙◌, arith}
use Rattle.index.specs.declared.keyed.Keyed.{Keyed}
use Rattle.index.specs.Keys.{keys}
use Rattle.index.proofs.Searching.{keys_length, key_at, hit_key, missed_between, left, right}
use Rattle.index.proofs.sorted.find.Goals as goal

pub loop-low-init : goal.loop-low-init
loop-low-init g c =
    let long = keys_length c.args.items.now in
    (omega arith, omega arith, record { bound = omega arith; below = λ k l. absurd (omega arith); above = λ k l m. absurd (omega arith) })

pub returns-then-item-key : goal.returns-then-item-key
returns-then-item-key g c = hit_key c.args.items.now _ c.args.key _ c.requires (omega arith) c.index-items-mid.is c.if-item-key.true

pub loop-low-preserved-then-item-key-2 : goal.loop-low-preserved-then-item-key-2
loop-low-preserved-then-item-key-2 g c =
    let at = ap (λ (y : Keyed _). y.key) c.index-items-mid.is ∙ sym (key_at c.args.items.now (c.loop-low.low + (c.loop-low.high - c.loop-low.low) / 2) _ (omega arith)) in
    (omega arith, omega arith, right (keys c.args.items.now) c.args.key _ _ _ c.requires c.loop-low.invariant.2 (omega arith) (omega arith) (subst (λ k. k < c.args.key) at c.if-item-key-2.true))

pub loop-low-preserved : goal.loop-low-preserved
loop-low-preserved g c =
    let at = ap (λ (y : Keyed _). y.key) c.index-items-mid.is ∙ sym (key_at c.args.items.now (c.loop-low.low + (c.loop-low.high - c.loop-low.low) / 2) _ (omega arith)) in
    (omega arith, omega arith, left (keys c.args.items.now) c.args.key _ _ _ c.requires c.loop-low.invariant.2 (omega arith) (omega arith) (subst (λ k. c.args.key < k) at (omega (arith, c.if-item-key.false, c.if-item-key-2.false))))

pub returns : goal.returns
returns g c = missed_between c.args.items.now c.args.key c.loop-low.low c.loop-low.high c.loop-low.invariant.2 c.loop-low-test.false
