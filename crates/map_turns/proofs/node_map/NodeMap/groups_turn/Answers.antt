use Rattle.map_stages.proofs.Turns.{groups_end, group_given}
use Rattle.map_turns.proofs.node_map.NodeMap.groups_turn.Goals as goal

pub returns-in_default : goal.returns-in_default
returns-in_default g c = λ x is. groups_end _ (g.T.Tree.lawful c.args.self.now.tree.now) _ _ _ x is _ c.in_default.ensures

pub returns : goal.returns
returns g c = λ x is. let k = c.in-Some.ensures in group_given _ (g.T.Tree.lawful c.args.self.now.tree.now) _ _ _ x is _ _ k.0 _ _ k.1 k.2 c.next_sibling.ensures (c.group_item-group.ensures (g.F.Forms.meaning c.args.self.now.forms.now) k.0 k.1)
