use Rattle.map_stages.proofs.Turns.{itself_gone, itself_passed, itself_given}
use Rattle.map_turns.proofs.Asked.{asks}
use Rattle.map_turns.proofs.node_map.NodeMap.argument_turn.Goals as goal

pub returns-in_default : goal.returns-in_default
returns-in_default g c = λ x is. itself_gone _ (g.T.Tree.lawful c.args.self.now.tree.now) _ _ _ x is _ _ c.in_default.ensures

pub returns : goal.returns
returns g c = λ x is. asks _ c.asked.ensures
    (λ e. itself_given _ (g.T.Tree.lawful c.args.self.now.tree.now) _ _ _ x is _ _ c.in-Some.field-0 _ _ c.in-Some.ensures c.behind-next.ensures e c.item-argument.ensures)
    (λ e. itself_passed _ (g.T.Tree.lawful c.args.self.now.tree.now) _ _ _ x is _ _ c.in-Some.field-0 _ c.in-Some.ensures c.behind-next.ensures e)
