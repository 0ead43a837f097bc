-- The list still to come of a map that is handed out. Assumes nothing.
use Rattle.std.specs.Prelude.{ℕ, suc, ◌^◌, List, [], ◌++◌, map, Some, None, filter, Option, nat_lt}
use Rattle.tree.specs.declared.handle.NodeHandle.{NodeHandle}
use Rattle.tree.specs.Document.{Entry, Node, Nodes, Argument, head_in, arguments_from, properties_in}
use Rattle.tree.specs.Going.{Spot, EntrySpot, found, found_entry}
use Rattle.spots.specs.Rows.{row, earlier, entry_row}
use Rattle.forms.specs.Forms.{Form, form_of}
use Rattle.forms.specs.Keys.{name, type}
use Rattle.lists.specs.Each.{if_some, for_each}
use Rattle.lists.specs.Properties.{in_force}
use Rattle.lists.specs.Groups.{children, groups_after}
use Rattle.lists.specs.Places.{identifier, Item}
use Rattle.lists.specs.Lists.{asked, group_item, argument_items, property_items}
use Rattle.lists.specs.Stages.{from_position, from_rest, from_args, argument_itself, property_type, property_plain}
use Rattle.map_stages.specs.declared.access.Stage.{Stage}
use Rattle.map_stages.specs.declared.access.Stage.TheVariants as stage
use Rattle.map_stages.specs.declared.access.NodeMapAccess.{NodeMapAccess}
use Rattle.map_stages.specs.declared.access.DocumentMapAccess.{DocumentMapAccess}

-- the entry with a handle, and those after it
abbrev pub self_of : Option EntrySpot → Option Entry
self_of None = None
self_of (Some s) = Some s.self

abbrev pub after_of : Option EntrySpot → List Entry
after_of None = []
after_of (Some s) = s.after

-- the arguments among entries, numbered from i on, as far as 32 bits hold the numbers
unfoldable pub numbered : ℕ → List Entry → List Argument
numbered i es = filter (λ a. nat_lt a.number (2 ^ 32)) (arguments_from i es)

-- the form that a map goes by; without one, the form without names
abbrev pub form_in : List Form → Option ℕ → Form
form_in fs None = []
form_in fs (Some i) = form_of fs i

module _ (f : Form) (n : Node) where
  -- the groups of the second nodes, where the first nodes come before those; then the omissions
  abbrev pub from_nodes : List Node → List Node → List Item
  from_nodes before cs = map group_item (groups_after before cs) ++ from_position f n 0

  -- the properties among entries; then the groups
  abbrev pub from_properties : List Entry → List Item
  from_properties es = for_each (property_items f) (in_force (properties_in es)) ++ from_nodes [] (children n)

  -- the arguments among entries, numbered from i on; then all behind the arguments
  abbrev pub from_arguments : ℕ → List Entry → List Item
  from_arguments i es = for_each (argument_items f) (numbered i es) ++ from_args f n

  -- the type of the node, and all behind it
  abbrev pub from_type : List Item
  from_type = if_some (head_in n).type (λ t. asked f type (identifier t)) ++ from_arguments 0 (head_in n).entries

  abbrev pub at_stage : Nodes → Stage → List Item
  at_stage d stage.Name = asked f name (identifier (head_in n).name) ++ from_type
  at_stage d stage.«Type» = from_type
  at_stage d (stage.ArgumentType at i) = from_arguments i (entry_row d at)
  at_stage d (stage.Argument e i) = argument_itself f n i (self_of (found_entry d e)) ++ from_arguments (suc i) (after_of (found_entry d e))
  at_stage d stage.Args = from_args f n
  at_stage d stage.Rest = from_rest f n
  at_stage d (stage.AtProperty at) = from_properties (entry_row d at)
  at_stage d (stage.PropertyType e) = property_type f n (self_of (found_entry d e)) ++ (property_plain f n (self_of (found_entry d e)) ++ from_properties (after_of (found_entry d e)))
  at_stage d (stage.Property e) = property_plain f n (self_of (found_entry d e)) ++ from_properties (after_of (found_entry d e))
  at_stage d (stage.Groups at) = from_nodes (earlier d at) (row d at)
  at_stage d (stage.Omissions i) = from_position f n i

abbrev pub of_node : Nodes → Form → Stage → Option Spot → List Item
of_node d f s None = []
of_node d f s (Some x) = at_stage f x.self d s

-- of a node's map; nothing where the handle is no node's
abbrev pub staged : Nodes → List Form → NodeHandle → Option ℕ → Stage → List Item
staged d fs h form s = of_node d (form_in fs form) s (found d h)

abbrev pub coming : Nodes → List Form → NodeMapAccess → List Item
coming d fs a = staged d fs a.node a.form a.stage

-- of a document's map
abbrev pub document_coming : Nodes → DocumentMapAccess → List Item
document_coming d a = map group_item (groups_after (earlier d a.at) (row d a.at))
