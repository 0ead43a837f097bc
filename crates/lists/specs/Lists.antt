-- The list of a document, of a node asked as a map, and of a node asked as a struct with a form. Assumes nothing.
use Rattle.std.specs.Prelude.{ℕ, suc, Bool, not, ◌&&◌, List, [], ◌∷◌, ◌++◌, map, filter}
use Rattle.tree.specs.Document.{Node, Argument, Property, head_in, arguments, properties}
use Rattle.forms.specs.Forms.{Form, has}
use Rattle.forms.specs.Keys.{Key, name, type, argument_type, argument, args, rest, at_property, at_property_type, property, group, omitted, spelled, plain}
use Rattle.lists.specs.Each.{when, if_some, for_each}
use Rattle.lists.specs.Properties.{is_property, in_force}
use Rattle.lists.specs.Groups.{Group, called, children, is_child, groups}
use Rattle.lists.specs.Places.{Place, a_node, value, identifier, a_group, arg_list, omission, Item}

abbrev pub item : Key → Place → Item
item k p = record { key = k; place = p }

-- the key with its place, if the form has what the key spells
abbrev pub asked : Form → Key → Place → List Item
asked f k p = when (has f (spelled k)) (item k p)

-- a group of one is that node
abbrev pub together : Node → List Node → Place
together c [] = a_node c
together c (d ∷ ds) = a_group (c ∷ (d ∷ ds))

abbrev pub group_item : Group → Item
group_item g = item (group (called g.first)) (together g.first g.others)

-- a property under its own name
abbrev pub plain_property : Property → Item
plain_property p = item (property p.name.bytes) (value p.entry)

-- "#i#type" if argument i has a type, and "#i" if it is in the form
abbrev pub argument_items : Form → Argument → List Item
argument_items f a =
    if_some a.entry.type (λ t. item (argument_type a.number) (identifier t) ∷ [])
    ++ asked f (argument a.number) (value a.entry)

-- the arguments whose "#i" is not in the form
abbrev pub unasked : Form → List Argument → List Argument
unasked f as' = filter (λ a. not (has f (spelled (argument a.number)))) as'

-- "#@p" and "#@p#type", if they are in the form, the second if the property has a type, and p itself
abbrev pub property_items : Form → Property → List Item
property_items f p =
    asked f (at_property p.name.bytes) (value p.entry)
    ++ (if_some p.entry.type (λ t. asked f (at_property_type p.name.bytes) (identifier t)) ++ (plain_property p ∷ []))

-- whether a name is plain and names no property and no child of the node
abbrev pub unmet : Node → List ℕ → Bool
unmet n m = plain m && (not (is_property (properties n) m) && not (is_child (children n) m))

-- an omission for each such name of the form, from position i on
abbrev pub omission_items : Node → ℕ → Form → List Item
omission_items n i [] = []
omission_items n i (m ∷ ms) = when (unmet n m) (item (omitted i m) omission) ++ omission_items n (suc i) ms

-- a document, as a map: its groups
abbrev pub document_list : List Node → List Item
document_list ns = map group_item (groups ns)

-- a node as a map: its properties in force, then its groups
abbrev pub map_list : Node → List Item
map_list n = map plain_property (in_force (properties n)) ++ document_list (children n)

-- a node as a struct with a form
abbrev pub struct_list : Form → Node → List Item
struct_list f n =
    asked f name (identifier (head_in n).name)
    ++ (if_some (head_in n).type (λ t. asked f type (identifier t))
    ++ (for_each (argument_items f) (arguments n)
    ++ (asked f args (arg_list (arguments n))
    ++ (asked f rest (arg_list (unasked f (arguments n)))
    ++ (for_each (property_items f) (in_force (properties n))
    ++ (document_list (children n)
    ++ omission_items n 0 f))))))
