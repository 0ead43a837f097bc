use Rattle.std.proofs.Common.{subst}
use Rattle.tree.specs.Numbers.{Rising}
use Rattle.index.specs.Keys.{keys}
use Rattle.index.proofs.sorted.Index.new.Goals as goal

pub invariant_of-result : goal.invariant_of-result
invariant_of-result g c = record { rising = subst (λ xs. Rising (keys xs)) c.deref.ensures.value c.if-rises.ensures }
