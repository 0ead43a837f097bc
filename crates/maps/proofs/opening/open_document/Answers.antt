use Rattle.std.proofs.Common.{sym, subst}
use Rattle.map_stages.specs.Opening.{OpensDocument}
use Rattle.map_stages.proofs.Opens.{opens_document}
use Rattle.maps.proofs.opening.open_document.Goals as goal

pub returns : goal.returns
returns g c =
    let d = g.T.Tree.meaning c.args.tree.now in
    subst (λ o. OpensDocument d (record { at = o })) (sym c.first_node.ensures) (opens_document d (g.T.Tree.lawful c.args.tree.now))
