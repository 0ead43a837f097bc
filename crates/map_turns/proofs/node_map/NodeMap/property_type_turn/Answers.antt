use Rattle.tree.specs.Lent.{ident_of}
use Rattle.map_stages.proofs.Turns.{property_type_passed, property_type_given}
use Rattle.map_turns.proofs.Asked.{asks}
use Rattle.map_turns.proofs.node_map.NodeMap.property_type_turn.Goals as goal

pub returns : goal.returns
returns g c = λ x is. asks _ c.asked.ensures
    (λ e. property_type_given _ (g.T.Tree.lawful c.args.self.now.tree.now) _ _ _ x is _ (ident_of c.in-Some.name) c.in-Some.ensures (ident_of c.in-Some-entry_type.field-0) _ c.in-Some-entry_type.ensures e c.item-own.ensures)
    (λ e. property_type_passed _ (g.T.Tree.lawful c.args.self.now.tree.now) _ _ _ x is _ (ident_of c.in-Some.name) c.in-Some.ensures (ident_of c.in-Some-entry_type.field-0) c.in-Some-entry_type.ensures e)
