use Rattle.std.proofs.Common.{◌≡◌, Bool, true, false, not, sym, refl, ◌∙◌}
use Rattle.std.proofs.lemmas.Bool.{both_ways}
use Rattle.map_stages.proofs.Groups.{not_plain, names_property, names_child}
use Rattle.map_turns.proofs.node_map.NodeMap.is_unmet.Goals as goal
use Rattle.map_turns.proofs.node_map.NodeMap.is_unmet.Goals.{then-is_plain, else-is_plain}

passed : (r v : Bool) → v ≡ not r → v ≡ true → false ≡ r
passed true v e t = absurd (both_ways v e t)
passed false v e t = refl

failed : (r v : Bool) → v ≡ not r → v ≡ false → true ≡ r
failed true v e t = refl
failed false v e t = absurd (both_ways v t e)

pub returns-else-not-has_property : goal.returns-else-not-has_property
returns-else-not-has_property g c = λ x is. c.if-not-has_property.false
    ∙ elim c.if-is_plain.branch [
      | then-is_plain w ↦ names_property _ (g.T.Tree.lawful c.args.self.now.tree.now) _ x is c.args.name.now _ w.first_entry.ensures (failed _ _ w.value-is c.if-not-has_property.false ∙ w.has_property.ensures)
      | else-is_plain w ↦ not_plain _ (g.T.Tree.lawful c.args.self.now.tree.now) _ x is c.args.name.now (sym w.if-is_plain.false ∙ c.is_plain.ensures)
    ]

pub returns-then-not-has_property : goal.returns-then-not-has_property
returns-then-not-has_property g c = λ x is.
    elim c.if-is_plain.branch [
      | then-is_plain w ↦
          names_child _ (g.T.Tree.lawful c.args.self.now.tree.now) _ x is c.args.name.now _ _ _ (sym w.if-is_plain.true ∙ c.is_plain.ensures) w.first_entry.ensures
          (passed _ _ w.value-is c.if-not-has_property.true ∙ w.has_property.ensures) c.first_child.ensures c.has_called.ensures
      | else-is_plain w ↦ absurd (both_ways _ w.if-is_plain.false (sym w.value-is ∙ c.if-not-has_property.true))
    ]
