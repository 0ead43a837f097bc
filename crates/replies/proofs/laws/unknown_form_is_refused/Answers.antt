use Rattle.replies.proofs.Unknown.{unknown_refused}
use Rattle.replies.proofs.laws.unknown_form_is_refused.Goals as goal

pub returns : goal.returns
returns c = unknown_refused
