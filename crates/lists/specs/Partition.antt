-- What the groups of some nodes are, and the properties in force, in words other than those that make them. Assumes nothing.
use Rattle.std.specs.Prelude.{◌≡◌, ℕ, Bool, cond, List, [], ◌∷◌, map, filter}
use Rattle.std.specs.List.{AllByRecursion}
use Rattle.std.specs.Str.{bytes_eq}
use Rattle.tree.specs.Document.{Node, Property}
use Rattle.lists.specs.Each.{for_each, times, Subsequence}
use Rattle.lists.specs.Properties.{is_property, in_force, InForce}
use Rattle.lists.specs.Groups.{Group, called, those_called, groups, First}

-- the nodes of all groups, one group after the other
abbrev pub joined : List Group → List Node
joined gs = for_each (λ g. g.first ∷ g.others) gs

abbrev pub firsts : List Group → List Node
firsts gs = map (λ g. g.first) gs

abbrev pub groups_called : List ℕ → List Group → List Group
groups_called m gs = filter (λ g. bytes_eq (called g.first) m) gs

-- one group of all, if there are some
abbrev pub one_group : List Node → List Group
one_group [] = []
one_group (c ∷ cs) = record { first = c; others = cs } ∷ []

-- the groups gs are the nodes cs, each once, parted by their names
pub record Parted (cs : List Node) (gs : List Group) : Type 0 where
  -- of each name there is one group, of the nodes of that name in their order; none where there is no such node
  pub each_name : (m : List ℕ) → groups_called m gs ≡ one_group (those_called m cs)
  -- whatever the test, as many nodes of the groups pass it as of the nodes: each stands in one group, once
  pub each_node : (test : Node → Bool) → times test (joined gs) ≡ times test cs
  -- a group begins with the first node of its name
  pub begins : AllByRecursion (First cs) (firsts gs)
  -- and the groups come in the order of those
  pub in_order : Subsequence (firsts gs) cs

abbrev pub properties_called : List ℕ → List Property → List Property
properties_called m ps = filter (λ p. bytes_eq p.name.bytes m) ps

-- of the properties ps those of qs are in force
pub record Forced (ps qs : List Property) : Type 0 where
  -- of each name among them exactly one, of any other none
  pub each_name : (m : List ℕ) → times (λ p. bytes_eq p.name.bytes m) qs ≡ cond (is_property ps m) 1 0
  -- it is the last of its name
  pub last : AllByRecursion (InForce ps) qs
  -- and each last of its name stands among them, once
  pub every_last : (p : Property) → InForce ps p → properties_called p.name.bytes qs ≡ p ∷ []
  -- in the order of the entries
  pub in_order : Subsequence qs ps

-- of all nodes and of all properties
pub record Partition : Type 0 where
  pub nodes : (cs : List Node) → Parted cs (groups cs)
  pub properties : (ps : List Property) → Forced ps (in_force ps)
