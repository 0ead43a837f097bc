use Rattle.std.proofs.Common.{ap, ◌∙◌}
use mathlib.Core.Logic.{∥∥₁_elim}
use base.Stored.{Coded-set}
use Rattle.std.specs.contracts.option.Option as option
use Rattle.tree.specs.Going.{all_spots}
use Rattle.index.specs.Keys.{lookup}
use Rattle.index.specs.contracts.link.NodeLink as node_link
use Rattle.index.proofs.Linked.{linked}
use Rattle.linked.proofs.linked.Linked.link.Goals as goal

pub returns : goal.returns
returns g c =
    let t = c.args.self.now in
    ∥∥₁_elim t.linked (Coded-set (option.the_row node_link.the_row).coded _ _)
    (λ e. c.get.ensures ∙ ap (λ xs. lookup xs c.args.n.number) e ∙ linked (all_spots (g.P.Parts.document t.parts)) c.args.n.number)
