use Rattle.lists.proofs.Holds.{placement}
use Rattle.lists.proofs.Keys.{told}
use Rattle.lists.proofs.placement_holds.Goals as goal

pub returns : goal.returns
returns c = record { placement = placement; keys = told }
