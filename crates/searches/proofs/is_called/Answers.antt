use Rattle.std.proofs.Common.{◌∙◌}
use Rattle.searches.proofs.Named.{called_told}
use Rattle.searches.proofs.is_called.Goals as goal

pub returns : goal.returns
returns g c = c.has_name.ensures ∙ called_told (g.T.Tree.meaning c.args.tree.now) c.args.name.now c.args.node
