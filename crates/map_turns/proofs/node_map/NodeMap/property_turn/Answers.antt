use Rattle.tree.specs.Lent.{ident_of}
use Rattle.map_stages.proofs.Turns.{plain_unnamed, plain_given}
use Rattle.map_turns.proofs.node_map.NodeMap.property_turn.Goals as goal

pub returns-in_default : goal.returns-in_default
returns-in_default g c = λ x is. plain_unnamed _ (g.T.Tree.lawful c.args.self.now.tree.now) _ _ _ x is _ _ c.in_default.ensures c.next_entry.ensures

pub returns : goal.returns
returns g c = λ x is. plain_given _ (g.T.Tree.lawful c.args.self.now.tree.now) _ _ _ x is _ (ident_of c.in-Some.field-0) c.in-Some.ensures _ _ c.next_entry.ensures c.item-property.ensures
