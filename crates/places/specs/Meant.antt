-- What the places, keys and items of the code stand for. Assumes nothing.
use Rattle.std.specs.Prelude.{ℕ, List, [], Some, None, Option}
use Rattle.tree.specs.Document.{Ident, Entry, Nodes, head_in, listed, arguments}
use Rattle.tree.specs.Going.{Spot, EntrySpot, found, found_entry}
use Rattle.forms.specs.Forms.{Form, name_at, form_of}
use Rattle.forms.specs.Keys as keys
use Rattle.lists.specs.Groups.{called, those_called}
use Rattle.lists.specs.Places as places
use Rattle.lists.specs.Lists.{together, unasked}
use Rattle.places.specs.declared.place.Place.{Place}
use Rattle.places.specs.declared.place.Place.TheVariants as place
use Rattle.places.specs.declared.item.KeyKind.{KeyKind}
use Rattle.places.specs.declared.item.KeyKind.TheVariants as kind
use Rattle.places.specs.declared.item.Part.{Part}
use Rattle.places.specs.declared.item.Part.TheVariants as part
use Rattle.places.specs.declared.item.Key.{Key}
use Rattle.places.specs.declared.item.Item.{Item}

-- a place of what is found; an omission where nothing is
abbrev pub at_spot : Option Spot → (Spot → places.Place) → places.Place
at_spot None f = places.omission
at_spot (Some s) f = f s

abbrev pub at_entry : Option EntrySpot → (Entry → places.Place) → places.Place
at_entry None f = places.omission
at_entry (Some s) f = f s.self

abbrev pub at_ident : Option Ident → places.Place
at_ident None = places.omission
at_ident (Some t) = places.identifier t

-- the place, in a document and with forms; a handle that is none's is the place of an omission
abbrev pub meant : Nodes → List Form → Place → places.Place
meant d fs place.Omission = places.omission
meant d fs place.Document = places.document (listed d)
meant d fs (place.Node h) = at_spot (found d h) (λ s. places.a_node s.self)
meant d fs (place.Value e) = at_entry (found_entry d e) places.value
meant d fs (place.NodeName h) = at_spot (found d h) (λ s. places.identifier (head_in s.self).name)
meant d fs (place.NodeType h) = at_spot (found d h) (λ s. at_ident (head_in s.self).type)
meant d fs (place.EntryType e) = at_entry (found_entry d e) (λ x. at_ident x.type)
meant d fs (place.Group h) = at_spot (found d h) (λ s. together s.self (those_called (called s.self) s.after))
meant d fs (place.Arguments h) = at_spot (found d h) (λ s. places.arg_list (arguments s.self))
meant d fs (place.Rest h i) = at_spot (found d h) (λ s. places.arg_list (unasked (form_of fs i) (arguments s.self)))

abbrev pub kind_meant : KeyKind → keys.Kind
kind_meant kind.Name = keys.of_name
kind_meant kind.«Type» = keys.of_type
kind_meant kind.ArgumentType = keys.of_argument_type
kind_meant kind.Argument = keys.of_argument
kind_meant kind.Args = keys.of_args
kind_meant kind.Rest = keys.of_rest
kind_meant kind.AtProperty = keys.of_at_property
kind_meant kind.AtPropertyType = keys.of_at_property_type
kind_meant kind.Property = keys.of_property
kind_meant kind.Group = keys.of_group
kind_meant kind.Omission = keys.of_omission

abbrev pub name_bytes : Option Spot → List ℕ
name_bytes None = []
name_bytes (Some s) = called s.self

abbrev pub ident_bytes : Option Ident → List ℕ
ident_bytes None = []
ident_bytes (Some t) = t.bytes

abbrev pub entry_bytes : Option EntrySpot → List ℕ
entry_bytes None = []
entry_bytes (Some s) = ident_bytes s.self.name

abbrev pub bytes_or : Option (List ℕ) → List ℕ
bytes_or None = []
bytes_or (Some m) = m

abbrev pub part_meant : Nodes → List Form → Part → List ℕ
part_meant d fs part.Nothing = []
part_meant d fs (part.Node h) = name_bytes (found d h)
part_meant d fs (part.Entry e) = entry_bytes (found_entry d e)
part_meant d fs (part.Form i j) = bytes_or (name_at fs i j)

abbrev pub key_meant : Nodes → List Form → Key → keys.Key
key_meant d fs k = record { kind = kind_meant k.kind; number = k.number; part = part_meant d fs k.part }

abbrev pub item_meant : Nodes → List Form → Item → places.Item
item_meant d fs x = record { key = key_meant d fs x.key; place = meant d fs x.place }
