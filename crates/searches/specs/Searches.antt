-- What the searches of a tree answer. Assumes nothing.
use Rattle.std.specs.Prelude.{◌≡◌, ℕ, Bool, false, List, [], ◌∷◌, ◌++◌, Some, None, Option}
use Rattle.std.specs.Str.{bytes_eq}
use Rattle.tree.specs.declared.handle.NodeHandle.{NodeHandle}
use Rattle.tree.specs.Document.{Ident, Nodes}
use Rattle.tree.specs.Going.{Spot, EntrySpot, found, then, first}
use Rattle.spots.specs.Rows.{row, earlier, held_by}
use Rattle.lists.specs.Groups.{Group, called, those_called, groups_after}

-- whether a node that is found has the name
abbrev pub is_called : Option Spot → List ℕ → Bool
is_called None m = false
is_called (Some s) m = bytes_eq (called s.self) m

abbrev pub ident_is : Option Ident → List ℕ → Bool
ident_is None m = false
ident_is (Some i) m = bytes_eq i.bytes m

-- whether an entry that is found is a property with the name
abbrev pub is_named : Option EntrySpot → List ℕ → Bool
is_named None m = false
is_named (Some s) m = ident_is s.self.name m

-- the first of the nodes that stand with a node
abbrev pub first_of_siblings : Nodes → NodeHandle → Option NodeHandle
first_of_siblings d h = then (found d h) (λ s. first (held_by d s.parent))

-- r is the first node from start on that has the name
abbrev pub NextCalled : Nodes → List ℕ → Option NodeHandle → Option NodeHandle → Type 0
NextCalled d m start None = those_called m (row d start) ≡ []
NextCalled d m start (Some h) = (s : Spot) × (found d h ≡ Some s) × (those_called m (row d start) ≡ s.self ∷ those_called m s.after)

-- the groups whose first nodes stand from a node on
abbrev pub groups_at : Nodes → Option NodeHandle → List Group
groups_at d at = groups_after (earlier d at) (row d at)

-- r is the first node from start on that is the first of its name
abbrev pub NextGroup : Nodes → Option NodeHandle → Option NodeHandle → Type 0
NextGroup d start None = groups_after (earlier d start) (row d start) ≡ []
NextGroup d start (Some h) =
    (s : Spot) × (found d h ≡ Some s)
    × (groups_after (earlier d start) (row d start)
    ≡ record { first = s.self; others = those_called (called s.self) s.after } ∷ groups_after (s.before ++ s.self ∷ []) s.after)
