-- Where what a node has stands in its lists. Assumes nothing.
use Rattle.std.specs.Prelude.{◌≡◌, ℕ, Bool, false, not, ◌&&◌, List, [], ◌∷◌, Some, None, Decides, filter, nat_eq}
use Rattle.std.specs.List.{AllByRecursion}
use Rattle.tree.specs.Document.{Node, Argument, Property, head_in, arguments, properties}
use Rattle.forms.specs.Forms.{Form, nth, has}
use Rattle.forms.specs.Keys.{Key, name, type, argument_type, argument, args, rest, at_property, at_property_type, property, group, omitted, spelled, same_key}
use Rattle.lists.specs.Each.{when, if_some, for_each, times, Subsequence}
use Rattle.lists.specs.Properties.{is_property, InForce}
use Rattle.lists.specs.Groups.{children, those_called}
use Rattle.lists.specs.Places.{Place, document, a_node, value, identifier, a_group, arg_list, omission, Item}
use Rattle.lists.specs.Lists.{together, unmet, document_list, map_list, struct_list}

-- what stands under a key
abbrev pub under : Key → List Item → List Place
under k xs = for_each (λ x. when (same_key x.key k) x.place) xs

-- the arguments of an argument list
abbrev pub arguments_in : Place → List Argument
arguments_in (document ns) = []
arguments_in (a_node n) = []
arguments_in (value e) = []
arguments_in (identifier t) = []
arguments_in (a_group ns) = []
arguments_in (arg_list as') = as'
arguments_in omission = []

-- the arguments in what stands under "#rest"
abbrev pub rest_arguments : List Item → List Argument
rest_arguments xs = for_each arguments_in (under rest xs)

-- those of the number i
abbrev pub of_number : ℕ → List Argument → List Argument
of_number i as' = filter (λ a. nat_eq a.number i) as'

-- one group of all, if there are some; a group of one is that node
abbrev pub gathered : List Node → List Place
gathered [] = []
gathered (c ∷ cs) = together c cs ∷ []

-- the nodes of a group, or the node
abbrev pub nodes_in : Place → List Node
nodes_in (document ns) = []
nodes_in (a_node n) = n ∷ []
nodes_in (value e) = []
nodes_in (identifier t) = []
nodes_in (a_group ns) = ns
nodes_in (arg_list as') = []
nodes_in omission = []

-- all nodes that stand in a list
abbrev pub standing : List Item → List Node
standing xs = for_each (λ x. nodes_in x.place) xs

-- the keys that a struct list may have
pub data StructKey : Key → Type 0 where
  name_key : StructKey name
  type_key : StructKey type
  argument_type_key : (i : ℕ) → StructKey (argument_type i)
  argument_key : (i : ℕ) → StructKey (argument i)
  args_key : StructKey args
  rest_key : StructKey rest
  at_property_key : (m : List ℕ) → StructKey (at_property m)
  at_property_type_key : (m : List ℕ) → StructKey (at_property_type m)
  property_key : (m : List ℕ) → StructKey (property m)
  group_key : (m : List ℕ) → StructKey (group m)
  omission_key : (i : ℕ) (m : List ℕ) → StructKey (omitted i m)

-- how the list xs places what the node n has, under the form f
pub record Placed (f : Form) (n : Node) (xs : List Item) : Type 0 where
  -- "#name" stands exactly when the form has it, once, and is the node's name
  pub own_name : under name xs ≡ when (has f (spelled name)) (identifier (head_in n).name)
  -- "#type" likewise, where the node has a type
  pub own_type : under type xs ≡ if_some (head_in n).type (λ t. when (has f (spelled type)) (identifier t))
  -- an argument stands under its own number exactly when the form has that name, and nothing else stands there
  pub by_number : (i : ℕ) (a : Argument) → nth (arguments n) i ≡ Some a → under (argument i) xs ≡ when (has f (spelled (argument i))) (value a.entry)
  -- its type stands exactly when it has one
  pub by_type : (i : ℕ) (a : Argument) → nth (arguments n) i ≡ Some a → under (argument_type i) xs ≡ if_some a.entry.type (λ t. identifier t ∷ [])
  -- it stands in "#rest" exactly when the form has "#rest" and not its number
  pub in_rest : (i : ℕ) (a : Argument) → nth (arguments n) i ≡ Some a → of_number i (rest_arguments xs) ≡ when (has f (spelled rest) && not (has f (spelled (argument i)))) a
  -- of a number that no argument has nothing stands
  pub no_number : (i : ℕ) → nth (arguments n) i ≡ None → (under (argument i) xs ≡ []) × (under (argument_type i) xs ≡ []) × (of_number i (rest_arguments xs) ≡ [])
  -- "#rest" stands exactly when the form has it, once, and is an argument list, in the arguments' order
  pub one_rest : under rest xs ≡ when (has f (spelled rest)) (arg_list (rest_arguments xs))
  pub rest_in_order : Subsequence (rest_arguments xs) (arguments n)
  -- "#args" stands exactly when the form has it, once, and is all arguments
  pub all_arguments : under args xs ≡ when (has f (spelled args)) (arg_list (arguments n))
  -- each property in force stands once under its name, and nothing else does
  pub by_property : (p : Property) → InForce (properties n) p → under (property p.name.bytes) xs ≡ value p.entry ∷ []
  -- "#@p" of it exactly when the form has that name
  pub by_at_property : (p : Property) → InForce (properties n) p → under (at_property p.name.bytes) xs ≡ when (has f (spelled (at_property p.name.bytes))) (value p.entry)
  -- "#@p#type" of it likewise, where it has a type
  pub by_property_type : (p : Property) → InForce (properties n) p
      → under (at_property_type p.name.bytes) xs ≡ if_some p.entry.type (λ t. when (has f (spelled (at_property_type p.name.bytes))) (identifier t))
  -- of a name that no property has nothing stands
  pub no_property : (m : List ℕ) → is_property (properties n) m ≡ false → (under (property m) xs ≡ []) × (under (at_property m) xs ≡ []) × (under (at_property_type m) xs ≡ [])
  -- under a child's name stand the children of that name, in one group, in order; without such a child nothing does
  pub by_name : (m : List ℕ) → under (group m) xs ≡ gathered (those_called m (children n))
  -- whatever the test, as many of the nodes that stand in the list pass it as of the children: each stands once
  pub each_child : (test : Node → Bool) → times test (standing xs) ≡ times test (children n)
  -- each position of the form whose plain name names no child and no property has one omission, every other none
  pub omissions : (i : ℕ) (m : List ℕ) → nth f i ≡ Some m → under (omitted i m) xs ≡ when (unmet n m) omission
  pub no_omission : (i : ℕ) (m : List ℕ) → (nth f i ≡ Some m → ⊥) → under (omitted i m) xs ≡ []
  -- no other key stands in it
  pub only : AllByRecursion (λ x. StructKey x.key) xs

-- the keys of a map without a form
pub data MapKey : Key → Type 0 where
  own_property : (m : List ℕ) → MapKey (property m)
  own_group : (m : List ℕ) → MapKey (group m)

-- how the list xs places what the node n has, without a form
pub record Mapped (n : Node) (xs : List Item) : Type 0 where
  pub by_property : (p : Property) → InForce (properties n) p → under (property p.name.bytes) xs ≡ value p.entry ∷ []
  pub no_property : (m : List ℕ) → is_property (properties n) m ≡ false → under (property m) xs ≡ []
  pub by_name : (m : List ℕ) → under (group m) xs ≡ gathered (those_called m (children n))
  pub each_child : (test : Node → Bool) → times test (standing xs) ≡ times test (children n)
  pub only : AllByRecursion (λ x. MapKey x.key) xs

-- how the list xs places the nodes of a document
pub record Collected (ns : List Node) (xs : List Item) : Type 0 where
  pub by_name : (m : List ℕ) → under (group m) xs ≡ gathered (those_called m ns)
  pub each_node : (test : Node → Bool) → times test (standing xs) ≡ times test ns
  pub only : AllByRecursion (λ x. (m : List ℕ) × (x.key ≡ group m)) xs

pub record Placement : Type 0 where
  pub structs : (f : Form) (n : Node) → Placed f n (struct_list f n)
  pub maps : (n : Node) → Mapped n (map_list n)
  pub documents : (ns : List Node) → Collected ns (document_list ns)

-- `same_key` tells whether two keys are one
abbrev pub KeysTold : Type 0
KeysTold = (a b : Key) → Decides (same_key a b) (a ≡ b)
