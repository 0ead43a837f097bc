use Rattle.std.proofs.Common.{arith}
use Rattle.forms.proofs.Sames.{other_lengths, other_bytes, all_bytes}
use Rattle.forms.proofs.compare.same.Goals as goal

pub returns-then-a-b : goal.returns-then-a-b
returns-then-a-b c = other_lengths c.args.a.now c.args.b.now c.if-a-b.true

pub returns-then-x-b : goal.returns-then-x-b
returns-then-x-b c = other_bytes c.args.a.now c.args.b.now c.loop-i.i c.if-x-b.true

pub returns : goal.returns
returns c = all_bytes c.args.a.now c.args.b.now c.if-a-b.false (λ i h. c.loop-i.invariant i (omega arith))
