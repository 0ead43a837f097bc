use Rattle.map_stages.proofs.Opens.{opens_struct}
use Rattle.maps.proofs.opening.open_struct.Goals as goal

pub returns : goal.returns
returns c = λ d law fs. opens_struct d law fs c.args.node c.args.form
