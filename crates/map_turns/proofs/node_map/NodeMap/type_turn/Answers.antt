use Rattle.tree.specs.Lent.{ident_of}
use Rattle.map_stages.proofs.Turns.{type_none, type_given, type_passed}
use Rattle.map_turns.proofs.Asked.{asks}
use Rattle.map_turns.proofs.node_map.NodeMap.type_turn.Goals as goal

pub returns-in_default : goal.returns-in_default
returns-in_default g c = λ x is. type_none _ (g.T.Tree.lawful c.args.self.now.tree.now) _ _ _ x is _ c.first_entry.ensures c.in_default.ensures

pub returns : goal.returns
returns g c = λ x is. let there = c.in-Some.ensures in asks _ c.asked.ensures
    (λ e. type_given _ (g.T.Tree.lawful c.args.self.now.tree.now) _ _ _ x is _ (ident_of c.in-Some.field-0) _ c.first_entry.ensures there e c.item-own.ensures)
    (λ e. type_passed _ (g.T.Tree.lawful c.args.self.now.tree.now) _ _ _ x is _ (ident_of c.in-Some.field-0) c.first_entry.ensures there e)
