use Rattle.tree.specs.Lent.{ident_of}
use Rattle.std.proofs.Common.{arith}
use Rattle.map_stages.proofs.Turns.{arguments_none, arguments_gone, argument_property, argument_untyped, argument_typed}
use Rattle.map_turns.proofs.node_map.NodeMap.argument_type_turn.Goals as goal

pub returns-in_default : goal.returns-in_default
returns-in_default g c = λ x is. arguments_none _ (g.T.Tree.lawful c.args.self.now.tree.now) _ _ _ x is _ _ c.in_default.is

pub returns-in_default-entry_span : goal.returns-in_default-entry_span
returns-in_default-entry_span g c = λ x is. arguments_gone _ (g.T.Tree.lawful c.args.self.now.tree.now) _ _ _ x is _ _ _ c.in-Some.is c.in_default-entry_span.ensures

pub returns-in-Some-entry_name : goal.returns-in-Some-entry_name
returns-in-Some-entry_name g c = λ x is. argument_property _ (g.T.Tree.lawful c.args.self.now.tree.now) _ _ _ x is _ _ _ c.in-Some-entry_span.field-0 c.in-Some.is c.in-Some-entry_span.ensures (ident_of c.in-Some-entry_name.field-0) _ c.in-Some-entry_name.ensures c.next_entry.ensures

pub returns-in_default-entry_type : goal.returns-in_default-entry_type
returns-in_default-entry_type g c = λ x is. argument_untyped _ (g.T.Tree.lawful c.args.self.now.tree.now) _ _ _ x is _ _ _ c.in-Some-entry_span.field-0 c.in-Some.is c.in-Some-entry_span.ensures (omega (arith, c.ranges.number.fits)) c.in_default-entry_name.ensures c.in_default-entry_type.ensures

pub returns : goal.returns
returns g c = λ x is. argument_typed _ (g.T.Tree.lawful c.args.self.now.tree.now) _ _ _ x is _ _ _ c.in-Some-entry_span.field-0 c.in-Some.is c.in-Some-entry_span.ensures (ident_of c.in-Some-entry_type.field-0) _ (omega (arith, c.ranges.number.fits)) c.in_default-entry_name.ensures c.in-Some-entry_type.ensures c.item-own.ensures
