use Rattle.replies.proofs.Tables.{examples_hold}
use Rattle.replies.proofs.laws.examples_hold.Goals as goal

pub returns : goal.returns
returns c = examples_hold
