use Rattle.map_stages.proofs.Groups.{group_meant}
use Rattle.map_turns.proofs.groups.group_item.Goals as goal

pub returns : goal.returns
returns g c = λ fs x is. group_meant _ (g.T.Tree.lawful c.args.tree.now) fs c.args.first x is _ _ (c.group_place-place.ensures fs x is) c.item.ensures
