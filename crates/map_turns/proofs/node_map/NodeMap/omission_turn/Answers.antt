use Rattle.std.proofs.Common.{sym, arith}
use Rattle.forms.proofs.Members.{position_below}
use Rattle.map_stages.proofs.Turns.{omissions_formless, omissions_over, omission_given, omission_passed}
use Rattle.map_turns.proofs.node_map.NodeMap.omission_turn.Goals as goal

pub returns-in_default : goal.returns-in_default
returns-in_default g c = λ x is. omissions_formless _ (g.T.Tree.lawful c.args.self.now.tree.now) _ _ _ x is _ c.in_default.is

pub returns-in_default-name : goal.returns-in_default-name
returns-in_default-name g c = λ x is. omissions_over _ (g.T.Tree.lawful c.args.self.now.tree.now) _ _ _ x is _ _ c.in-Some.is c.in_default-name.ensures

pub returns-then-not-is_unmet : goal.returns-then-not-is_unmet
returns-then-not-is_unmet g c = λ x is. omission_passed _ (g.T.Tree.lawful c.args.self.now.tree.now) _ _ _ x is _ _ c.in-Some.is c.in-Some-name.name.now c.in-Some-name.ensures (c.if-not-is_unmet.ensures x is)

pub returns : goal.returns
returns g c = λ x is. omission_given _ (g.T.Tree.lawful c.args.self.now.tree.now) _ _ _ x is _ _ c.in-Some.is c.in-Some-name.name.now c.in-Some-name.ensures _ (c.if-not-is_unmet.ensures x is) c.item-omitted.ensures

pub overflow_add-next : goal.overflow_add-next
overflow_add-next g c = let h = position_below (g.F.Forms.meaning c.args.self.now.forms.now) _ _ c.in-Some-name.name.now (g.F.Forms.lawful c.args.self.now.forms.now) (sym c.in-Some-name.ensures) in omega arith
