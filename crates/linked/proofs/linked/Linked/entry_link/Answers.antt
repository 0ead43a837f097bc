use Rattle.std.proofs.Common.{ap, ◌∙◌}
use mathlib.Core.Logic.{∥∥₁_elim}
use base.Stored.{Coded-set}
use Rattle.std.specs.contracts.option.Option as option
use Rattle.tree.specs.Going.{all_entries}
use Rattle.index.specs.Keys.{lookup}
use Rattle.index.specs.contracts.link.EntryLink as entry_link
use Rattle.index.proofs.Linked.{entry_linked}
use Rattle.linked.proofs.linked.Linked.entry_link.Goals as goal

pub returns : goal.returns
returns g c =
    let t = c.args.self.now in
    ∥∥₁_elim t.entries_linked (Coded-set (option.the_row entry_link.the_row).coded _ _)
    (λ e. c.get.ensures ∙ ap (λ xs. lookup xs c.args.e.number) e ∙ entry_linked (all_entries (g.P.Parts.document t.parts)) c.args.e.number)
