use Rattle.std.proofs.Common.{rules}
use Rattle.common.proofs.Digits.{two_more}
use Rattle.common.proofs.hex.bytes_of.Goals as goal

pub loop-rest-preserved : goal.loop-rest-preserved
loop-rest-preserved c = two_more c.loop-rest.rest.now _ _ c.in-Some.b _ (search rules) c.in-Some.ensures c.loop-rest.invariant c.in_ok-push-in-Some.ensures.items
