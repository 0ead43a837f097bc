use Rattle.std.proofs.Common.{sym, subst}
use Rattle.searches.specs.Searches.{NextCalled}
use Rattle.searches.proofs.Named.{next_told}
use Rattle.searches.proofs.next_called.Goals as goal

pub returns : goal.returns
returns g c = subst (NextCalled (g.T.Tree.meaning c.args.tree.now) c.args.name.now c.args.start) (sym c.find_named.ensures) (next_told (g.T.Tree.meaning c.args.tree.now) c.args.name.now (g.T.Tree.lawful c.args.tree.now) c.args.start)
