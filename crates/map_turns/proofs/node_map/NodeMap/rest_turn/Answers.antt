use Rattle.map_stages.proofs.Turns.{rest_unasked, rest_given, rest_passed}
use Rattle.map_turns.proofs.Asked.{asks}
use Rattle.map_turns.proofs.node_map.NodeMap.rest_turn.Goals as goal

pub returns-in_default : goal.returns-in_default
returns-in_default g c = λ x is. rest_unasked _ (g.T.Tree.lawful c.args.self.now.tree.now) _ _ _ x is _ c.first_entry.ensures c.in_default.is

pub returns : goal.returns
returns g c = λ x is. asks _ c.asked.ensures
    (λ e. rest_given _ (g.T.Tree.lawful c.args.self.now.tree.now) _ _ _ x is _ c.in-Some.form _ c.first_entry.ensures c.in-Some.is e c.item-rest.ensures)
    (λ e. rest_passed _ (g.T.Tree.lawful c.args.self.now.tree.now) _ _ _ x is _ c.first_entry.ensures e)
