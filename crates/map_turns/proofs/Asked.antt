-- A turn that gives an item where the form asks for it. Assumes nothing.
use Rattle.std.proofs.Common.{◌≡◌, ℕ, Bool, true, false, cond, List, Option, sym, refl, subst}
use Rattle.tree.specs.declared.handle.NodeHandle.{NodeHandle}
use Rattle.tree.specs.Document.{Nodes}
use Rattle.forms.specs.Forms.{Form}
use Rattle.places.specs.declared.item.Item.{Item}
use Rattle.map_stages.specs.declared.access.Stage.{Stage}
use Rattle.map_stages.specs.declared.access.Turn.{Turn}
use Rattle.map_stages.specs.declared.access.Turn.TheVariants.{Pass, Give}
use Rattle.map_stages.specs.Turning.{Moves}

pub asks : {d : Nodes} {fs : List Form} {h : NodeHandle} {form : Option ℕ} {s n : Stage} {t : Turn} {x : Item} (b : Bool) → t ≡ cond b (Give x n) (Pass n)
    → (true ≡ b → Moves d fs h form s (Give x n)) → (false ≡ b → Moves d fs h form s (Pass n)) → Moves d fs h form s t
asks true e given passed = subst (Moves _ _ _ _ _) (sym e) (given refl)
asks false e given passed = subst (Moves _ _ _ _ _) (sym e) (passed refl)
