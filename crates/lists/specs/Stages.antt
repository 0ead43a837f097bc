-- How far a list is handed out. Assumes nothing.
use Rattle.std.specs.Prelude.{◌≡◌, ℕ, suc, ◌<◌, ◌≤◌, cond, not, List, [], ◌∷◌, ◌++◌, map, length, take, drop, Some, None, Option}
use Rattle.tree.specs.Document.{Ident, Entry, Node, Property, head_in, arguments, arguments_from, properties_in}
use Rattle.forms.specs.Forms.{Form, nth}
use Rattle.forms.specs.Keys.{name, type, argument_type, argument, args, rest, at_property, at_property_type, omitted}
use Rattle.lists.specs.Each.{when, if_some, for_each}
use Rattle.lists.specs.Properties.{is_property, in_force}
use Rattle.lists.specs.Groups.{called, children, is_child, those_called, groups_after}
use Rattle.lists.specs.Places.{value, identifier, arg_list, omission, Item}
use Rattle.lists.specs.Lists.{item, asked, group_item, plain_property, argument_items, unasked, property_items, unmet, omission_items, document_list, map_list, struct_list}

-- what one stage gives, at most one item, and the stage after it, if there is one
pub record Turn (S : Type 0) : Type 0 where
  pub items : List Item
  pub next : Option S

abbrev pub turn : {S : Type 0} → List Item → S → Turn S
turn xs s = record { items = xs; next = Some s }

abbrev pub end : {S : Type 0} → Turn S
end = record { items = []; next = None }

-- what is still to come after a turn
abbrev pub after : {S : Type 0} → (S → List Item) → Option S → List Item
after to_come None = []
after to_come (Some s) = to_come s

-- the list xs is what is to come at the first stage; each stage gives the next part of it, at most one item; and the stages end, since a number
-- falls from each to the next
pub record Staged {S : Type 0} (to_come : S → List Item) (turn_at : S → Turn S) (first : S) (xs : List Item) : Type 0 where
  pub starts : to_come first ≡ xs
  pub turns : (s : S) → to_come s ≡ (turn_at s).items ++ after to_come (turn_at s).next
  pub single : (s : S) → length (turn_at s).items ≤ 1
  pub left : S → ℕ
  pub falls : (s t : S) → (turn_at s).next ≡ Some t → left t < left s

-- the groups of a list of nodes: a stage is the position of the next node
abbrev pub from_node : List Node → ℕ → List Item
from_node cs j = map group_item (groups_after (take j cs) (drop j cs))

-- what the node c gives after those before it and before those after it
abbrev pub group_of : List Node → Node → List Node → List Item
group_of before c later = when (not (is_child before (called c))) (group_item (record { first = c; others = those_called (called c) later }))

abbrev pub node_turn : List Node → ℕ → Option Node → Turn ℕ
node_turn cs j None = end
node_turn cs j (Some c) = turn (group_of (take j cs) c (drop (suc j) cs)) (suc j)

abbrev pub document_turn : List Node → ℕ → Turn ℕ
document_turn cs j = node_turn cs j (nth cs j)

-- a property, with its name
abbrev pub property_of : Entry → Ident → Property
property_of e m = record { name = m; entry = e }

-- a map without a form: the position of the next entry, then that of the next child
pub data MapStage : Type 0 where
  by_entry : ℕ → MapStage
  by_child : ℕ → MapStage

module _ (n : Node) where
  abbrev pub plain_from : ℕ → List Item
  plain_from e = map plain_property (in_force (properties_in (drop e (head_in n).entries))) ++ from_node (children n) 0

  abbrev pub map_to_come : MapStage → List Item
  map_to_come (by_entry e) = plain_from e
  map_to_come (by_child j) = from_node (children n) j

  abbrev pub plain_of : ℕ → Entry → Option Ident → List Item
  plain_of e x None = []
  plain_of e x (Some m) = when (not (is_property (properties_in (drop (suc e) (head_in n).entries)) m.bytes)) (plain_property (property_of x m))

  abbrev pub plain_turn : ℕ → Option Entry → Turn MapStage
  plain_turn e None = turn [] (by_child 0)
  plain_turn e (Some x) = turn (plain_of e x x.name) (by_entry (suc e))

  abbrev pub child_turn : ℕ → Option Node → Turn MapStage
  child_turn j None = end
  child_turn j (Some c) = turn (group_of (take j (children n)) c (drop (suc j) (children n))) (by_child (suc j))

  abbrev pub map_turn : MapStage → Turn MapStage
  map_turn (by_entry e) = plain_turn e (nth (head_in n).entries e)
  map_turn (by_child j) = child_turn j (nth (children n) j)

-- a struct: the part of its list that comes next. Entries, children and the form's names go by their positions, an argument by its position
-- among the entries and its number
pub data Stage : Type 0 where
  -- "#name", "#type"
  titled : Stage
  typed : Stage
  -- "#i#type" of the entry at a position, if it is argument i, and then its "#i"
  argued : ℕ → ℕ → Stage
  numbered : ℕ → ℕ → Stage
  -- "#args", "#rest"
  collected : Stage
  left_over : Stage
  -- "#@p" of the entry at a position, if it is the property p in force, then its "#@p#type", and p itself
  owned : ℕ → Stage
  owned_type : ℕ → Stage
  owned_plain : ℕ → Stage
  -- the group that the child at a position begins, and the omission at a position of the form
  grouped : ℕ → Stage
  omitting : ℕ → Stage

module _ (f : Form) (n : Node) where
  abbrev pub from_position : ℕ → List Item
  from_position i = omission_items n i (drop i f)

  abbrev pub from_child : ℕ → List Item
  from_child j = from_node (children n) j ++ from_position 0

  abbrev pub from_property : ℕ → List Item
  from_property e = for_each (property_items f) (in_force (properties_in (drop e (head_in n).entries))) ++ from_child 0

  abbrev pub from_rest : List Item
  from_rest = asked f rest (arg_list (unasked f (arguments n))) ++ from_property 0

  abbrev pub from_args : List Item
  from_args = asked f args (arg_list (arguments n)) ++ from_rest

  abbrev pub from_argument : ℕ → ℕ → List Item
  from_argument e i = for_each (argument_items f) (arguments_from i (drop e (head_in n).entries)) ++ from_args

  -- what the entry at a position gives, if there is one
  abbrev pub argument_itself : ℕ → Option Entry → List Item
  argument_itself i o = if_some o (λ x. asked f (argument i) (value x))

  abbrev pub property_type : Option Entry → List Item
  property_type o = if_some o (λ x. if_some x.name (λ m. if_some x.type (λ t. asked f (at_property_type m.bytes) (identifier t))))

  abbrev pub property_plain : Option Entry → List Item
  property_plain o = if_some o (λ x. if_some x.name (λ m. plain_property (property_of x m) ∷ []))

  -- what is still to come
  abbrev pub to_come : Stage → List Item
  to_come titled = asked f name (identifier (head_in n).name) ++ (if_some (head_in n).type (λ t. asked f type (identifier t)) ++ from_argument 0 0)
  to_come typed = if_some (head_in n).type (λ t. asked f type (identifier t)) ++ from_argument 0 0
  to_come (argued e i) = from_argument e i
  to_come (numbered e i) = argument_itself i (nth (head_in n).entries e) ++ from_argument (suc e) (suc i)
  to_come collected = from_args
  to_come left_over = from_rest
  to_come (owned e) = from_property e
  to_come (owned_type e) = property_type (nth (head_in n).entries e) ++ (property_plain (nth (head_in n).entries e) ++ from_property (suc e))
  to_come (owned_plain e) = property_plain (nth (head_in n).entries e) ++ from_property (suc e)
  to_come (grouped j) = from_child j
  to_come (omitting i) = from_position i

  abbrev pub argument_turn : ℕ → ℕ → Entry → Option Ident → Turn Stage
  argument_turn e i x None = turn (if_some x.type (λ t. item (argument_type i) (identifier t) ∷ [])) (numbered e i)
  argument_turn e i x (Some m) = turn [] (argued (suc e) i)

  abbrev pub argued_turn : ℕ → ℕ → Option Entry → Turn Stage
  argued_turn e i None = turn [] collected
  argued_turn e i (Some x) = argument_turn e i x x.name

  abbrev pub property_turn : ℕ → Entry → Option Ident → Turn Stage
  property_turn e x None = turn [] (owned (suc e))
  property_turn e x (Some m) =
      cond (is_property (properties_in (drop (suc e) (head_in n).entries)) m.bytes) (turn [] (owned (suc e)))
      (turn (asked f (at_property m.bytes) (value x)) (owned_type e))

  abbrev pub owned_turn : ℕ → Option Entry → Turn Stage
  owned_turn e None = turn [] (grouped 0)
  owned_turn e (Some x) = property_turn e x x.name

  abbrev pub grouped_turn : ℕ → Option Node → Turn Stage
  grouped_turn j None = turn [] (omitting 0)
  grouped_turn j (Some c) = turn (group_of (take j (children n)) c (drop (suc j) (children n))) (grouped (suc j))

  abbrev pub omission_turn : ℕ → Option (List ℕ) → Turn Stage
  omission_turn i None = end
  omission_turn i (Some m) = turn (when (unmet n m) (item (omitted i m) omission)) (omitting (suc i))

  abbrev pub turn_at : Stage → Turn Stage
  turn_at titled = turn (asked f name (identifier (head_in n).name)) typed
  turn_at typed = turn (if_some (head_in n).type (λ t. asked f type (identifier t))) (argued 0 0)
  turn_at (argued e i) = argued_turn e i (nth (head_in n).entries e)
  turn_at (numbered e i) = turn (argument_itself i (nth (head_in n).entries e)) (argued (suc e) (suc i))
  turn_at collected = turn (asked f args (arg_list (arguments n))) left_over
  turn_at left_over = turn (asked f rest (arg_list (unasked f (arguments n)))) (owned 0)
  turn_at (owned e) = owned_turn e (nth (head_in n).entries e)
  turn_at (owned_type e) = turn (property_type (nth (head_in n).entries e)) (owned_plain e)
  turn_at (owned_plain e) = turn (property_plain (nth (head_in n).entries e)) (owned (suc e))
  turn_at (grouped j) = grouped_turn j (nth (children n) j)
  turn_at (omitting i) = omission_turn i (nth f i)

pub record Stages : Type 0 where
  pub structs : (f : Form) (n : Node) → Staged (to_come f n) (turn_at f n) titled (struct_list f n)
  pub maps : (n : Node) → Staged (map_to_come n) (map_turn n) (by_entry 0) (map_list n)
  pub documents : (ns : List Node) → Staged (from_node ns) (document_turn ns) 0 (document_list ns)
