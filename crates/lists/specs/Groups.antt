-- Children grouped by their names. Assumes nothing.
use Rattle.std.specs.Prelude.{◌≡◌, ℕ, Bool, false, cond, ◌||◌, List, [], ◌∷◌, ◌++◌, filter}
use Rattle.std.specs.Str.{bytes_eq}
use Rattle.tree.specs.Document.{Node, head_in, block_in, within, listed}

-- the name of a node
abbrev pub called : Node → List ℕ
called c = (head_in c).name.bytes

-- the nodes of a node's block, none without a block
abbrev pub children : Node → List Node
children n = listed (within (block_in n))

-- whether one of the nodes has the name
abbrev pub is_child : List Node → List ℕ → Bool
is_child [] m = false
is_child (c ∷ cs) m = bytes_eq (called c) m || is_child cs m

-- the nodes of one name
abbrev pub those_called : List ℕ → List Node → List Node
those_called m cs = filter (λ c. bytes_eq (called c) m) cs

-- the nodes of one name: the first of them, and the others in order
pub record Group : Type 0 where
  pub first : Node
  pub others : List Node

-- the groups whose first nodes are among the second nodes, where the first nodes come before those: a node is the first of its name when none
-- before it has that name
abbrev pub groups_after : List Node → List Node → List Group
groups_after before [] = []
groups_after before (c ∷ cs) =
    cond (is_child before (called c)) (groups_after (before ++ c ∷ []) cs)
    (record { first = c; others = those_called (called c) cs } ∷ groups_after (before ++ c ∷ []) cs)

-- the groups of some nodes, in the order of their first nodes
abbrev pub groups : List Node → List Group
groups cs = groups_after [] cs

-- c is one of the nodes, and none before it has its name
pub record First (cs : List Node) (c : Node) : Type 0 where
  pub before : List Node
  pub after : List Node
  pub among : cs ≡ before ++ c ∷ after
  pub none_before : is_child before (called c) ≡ false
