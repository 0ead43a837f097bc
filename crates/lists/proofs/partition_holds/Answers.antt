use Rattle.lists.proofs.Forced.{forced}
use Rattle.lists.proofs.Parted.{parted}
use Rattle.lists.proofs.partition_holds.Goals as goal

pub returns : goal.returns
returns c = record { nodes = parted; properties = forced }
