-- What one stage gives, and how far it is from the end. Assumes nothing.
use Rattle.std.specs.Prelude.{◌≡◌, ℕ, ◌+◌, ◌-◌, ◌*◌, ◌<◌, List, [], ◌∷◌, length, Option}
use Rattle.tree.specs.declared.handle.NodeHandle.{NodeHandle}
use Rattle.tree.specs.Document.{Nodes}
use Rattle.tree.specs.Going.{found_entry}
use Rattle.spots.specs.Rows.{row, earlier, entry_row, inner, entries}
use Rattle.forms.specs.Forms.{Form}
use Rattle.lists.specs.Groups.{groups_after}
use Rattle.places.specs.Meant.{item_meant}
use Rattle.map_stages.specs.declared.access.Stage.{Stage}
use Rattle.map_stages.specs.declared.access.Stage.TheVariants as stage
use Rattle.map_stages.specs.declared.access.Turn.{Turn}
use Rattle.map_stages.specs.declared.access.Turn.TheVariants.{End, Pass, Give}
use Rattle.map_stages.specs.Coming.{after_of, form_in, staged}

module _ (d : Nodes) (fs : List Form) (h : NodeHandle) (form : Option ℕ) where
  -- what a turn gives, and then the list at the next stage, is the list at this stage
  abbrev pub Turned : Stage → Turn → Type 0
  Turned s End = staged d fs h form s ≡ []
  Turned s (Pass t) = staged d fs h form s ≡ staged d fs h form t
  Turned s (Give x t) = staged d fs h form s ≡ item_meant d fs x ∷ staged d fs h form t

  -- a number that falls from stage to stage
  abbrev behind_properties : ℕ
  behind_properties = length (form_in fs form) + 2 + length (groups_after [] (inner d h))

  abbrev behind_arguments : ℕ
  behind_arguments = behind_properties + 3 * length (entries d h) + 3

  abbrev pub left : Stage → ℕ
  left stage.Name = behind_arguments + 2 * length (entries d h) + 2
  left stage.«Type» = behind_arguments + 2 * length (entries d h) + 1
  left (stage.ArgumentType at i) = behind_arguments + 2 * length (entry_row d at)
  left (stage.Argument e i) = behind_arguments + 2 * length (after_of (found_entry d e)) + 1
  left stage.Args = behind_properties + 3 * length (entries d h) + 2
  left stage.Rest = behind_properties + 3 * length (entries d h) + 1
  left (stage.AtProperty at) = behind_properties + 3 * length (entry_row d at)
  left (stage.PropertyType e) = behind_properties + 3 * length (after_of (found_entry d e)) + 2
  left (stage.Property e) = behind_properties + 3 * length (after_of (found_entry d e)) + 1
  left (stage.Groups at) = length (form_in fs form) + 1 + length (groups_after (earlier d at) (row d at))
  left (stage.Omissions i) = length (form_in fs form) - i

  abbrev pub Falls : Stage → Turn → Type 0
  Falls s End = Unit {0}
  Falls s (Pass t) = left t < left s
  Falls s (Give x t) = left t < left s

  pub record Moves (s : Stage) (t : Turn) : Type 0 where
    pub turned : Turned s t
    pub falls : Falls s t
