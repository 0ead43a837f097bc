use Rattle.tree.specs.Lent.{ident_of}
use Rattle.map_stages.proofs.Turns.{properties_none, properties_gone, property_argument, property_overridden, property_passed, property_given}
use Rattle.map_turns.proofs.Asked.{asks}
use Rattle.map_turns.proofs.node_map.NodeMap.at_property_turn.Goals as goal

pub returns-in_default : goal.returns-in_default
returns-in_default g c = λ x is. properties_none _ (g.T.Tree.lawful c.args.self.now.tree.now) _ _ _ x is _ _ c.in_default.is c.first_child.ensures

pub returns-in_default-entry_span : goal.returns-in_default-entry_span
returns-in_default-entry_span g c = λ x is. properties_gone _ (g.T.Tree.lawful c.args.self.now.tree.now) _ _ _ x is _ _ _ c.in-Some.is c.in_default-entry_span.ensures c.first_child-in_default-entry_span.ensures

pub returns-in_default-entry_name : goal.returns-in_default-entry_name
returns-in_default-entry_name g c = λ x is. property_argument _ (g.T.Tree.lawful c.args.self.now.tree.now) _ _ _ x is _ _ c.in-Some.is _ c.next_entry-next.ensures c.in-Some-entry_span.field-0 c.in-Some-entry_span.ensures c.in_default-entry_name.ensures

pub returns-then-has_property : goal.returns-then-has_property
returns-then-has_property g c = λ x is. property_overridden _ (g.T.Tree.lawful c.args.self.now.tree.now) _ _ _ x is _ _ c.in-Some.is _ c.next_entry-next.ensures (ident_of c.in-Some-entry_name.name) c.in-Some-entry_name.ensures c.if-has_property.ensures

pub returns : goal.returns
returns g c = λ x is. asks _ c.asked.ensures
    (λ e. property_given _ (g.T.Tree.lawful c.args.self.now.tree.now) _ _ _ x is _ _ c.in-Some.is _ c.next_entry-next.ensures (ident_of c.in-Some-entry_name.name) c.in-Some-entry_name.ensures _ c.if-has_property.ensures e c.item-value.ensures)
    (λ e. property_passed _ (g.T.Tree.lawful c.args.self.now.tree.now) _ _ _ x is _ _ c.in-Some.is _ c.next_entry-next.ensures (ident_of c.in-Some-entry_name.name) c.in-Some-entry_name.ensures c.if-has_property.ensures e)
