use Rattle.std.proofs.Common.{◌∙◌}
use Rattle.searches.proofs.Named.{child_told}
use Rattle.searches.proofs.has_called.Goals as goal

pub returns : goal.returns
returns g c = c.any_named.ensures ∙ child_told (g.T.Tree.meaning c.args.tree.now) c.args.name.now (g.T.Tree.lawful c.args.tree.now) c.args.start
