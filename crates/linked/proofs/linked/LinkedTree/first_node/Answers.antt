use Rattle.std.proofs.Common.{◌≡◌, ℕ, List, Option, ap, ◌∙◌, rules}
use mathlib.Core.Logic.{∥∥₁_elim}
use base.Stored.{Coded-set}
use Rattle.std.specs.Option.{option_map}
use Rattle.std.specs.contracts.option.Option as option
use Rattle.tree.specs.Document.{Nodes}
use Rattle.tree.specs.Going.{first_node}
use Rattle.tree.specs.contracts.handle.NodeHandle as node_handle
use Rattle.tree.specs.declared.handle.NodeHandle.{NodeHandle}
use Rattle.index.specs.Keys.{first_key}
use Rattle.index.specs.Links.{links_of}
use Rattle.index.specs.declared.keyed.Keyed.{Keyed}
use Rattle.index.specs.declared.link.NodeLink.{NodeLink}
use Rattle.index.proofs.Linked.{first_linked}
use Rattle.linked.proofs.linked.LinkedTree.first_node.Goals as goal

-- the handle with the first number of the links is the first node's
first_told : (doc : Nodes) (links : List (Keyed NodeLink)) (number : Option ℕ) (first : Option NodeHandle) → first ≡ option_map (λ n. record { number = n }) number → number ≡ first_key links → links ≡ links_of doc → first ≡ first_node doc
first_told doc links number first mapped is linked = mapped ∙ ap (option_map (λ n. record { number = n })) (is ∙ ap first_key linked) ∙ first_linked doc

pub returns : goal.returns
returns g c =
    let t = c.args.self.now in
    ∥∥₁_elim t.linked (Coded-set (option.the_row node_handle.the_row).coded _ _)
    (λ e. first_told (g.P.Parts.document t.parts) _ c.first.result c.map.result (search rules) c.first.ensures e)
