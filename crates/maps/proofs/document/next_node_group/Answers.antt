use Rattle.std.proofs.Common.{map, ap}
use Rattle.lists.specs.Lists.{group_item}
use Rattle.map_stages.proofs.Groups.{document_next}
use Rattle.maps.proofs.document.next_node_group.Goals as goal

pub returns : goal.returns
returns g c = λ fs.
    let k = c.in_ok-first.ensures in
    document_next _ (g.T.Tree.lawful c.args.tree.now) fs c.args.access.now.at c.in_ok-first.first k.0 _ c.group_item-item.result
    k.1 k.2 c.next_sibling-access.ensures (c.group_item-item.ensures fs k.0 k.1)

pub returns-in_err-first : goal.returns-in_err-first
returns-in_err-first g c = λ fs. let e = ap (map group_item) c.in_err-first.ensures in rw c.from_residual.ensures (e, e)
