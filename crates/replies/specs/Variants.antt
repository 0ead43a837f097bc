-- The variant of an enum: its name, and what its content answers. Assumes nothing.
use Rattle.std.specs.Prelude.{ℕ, List, [], ◌∷◌, Some, None, Option}
use Rattle.tree.specs.Document.{Value, null, string, integer, float, bool, Argument, Property, Node, Block, no_block, block, block_in, listed, arguments, properties}
use Rattle.lists.specs.Properties.{in_force}
use Rattle.lists.specs.Groups.{called}
use Rattle.lists.specs.Places.{Place, a_node, value, Item}
use Rattle.lists.specs.Lists.{map_list}
use Rattle.replies.specs.declared.cause.Cause.TheVariants as cause
use Rattle.replies.specs.declared.content.Content.{Content}
use Rattle.replies.specs.declared.content.Content.TheVariants as ask
use Rattle.replies.specs.declared.mark.Mark.{Mark}
use Rattle.replies.specs.Marks.{at_word, at_node_name, at_property_name, at_property_content}
use Rattle.replies.specs.Refusals.{Refusal, unfit, word_content}
use Rattle.replies.specs.Shapes.{Shape, empty, scalar, several, mixed, shape, elements}

-- a text with its mark, a node, or a property
pub data Variant : Type 0 where
  word : List ℕ → Mark → Variant
  of_node : Node → Variant
  of_property : Property → Variant

abbrev word_or : Value → Mark → Variant → Variant
word_or (string t) m v = word t m
word_or null m v = v
word_or (integer i) m v = v
word_or (float b) m v = v
word_or (bool b) m v = v

abbrev only_property : Node → List Property → List Argument → Variant
only_property n [] as' = of_node n
only_property n (p ∷ []) [] = of_property p
only_property n (p ∷ []) (a ∷ as') = of_node n
only_property n (p ∷ (q ∷ ps)) as' = of_node n

abbrev only_child : Node → List Node → Variant
only_child n [] = of_node n
only_child n (c ∷ []) = of_node c
only_child n (c ∷ (d ∷ ds)) = of_node n

abbrev within_node : Node → Block → Variant
within_node n (block ns) = only_child n (listed ns)
within_node n no_block = only_property n (in_force (properties n)) (arguments n)

abbrev shaped_variant : Node → Shape → Variant
shaped_variant n empty = of_node n
shaped_variant n (scalar e) = word_or e.value (at_word e) (of_node n)
shaped_variant n several = of_node n
shaped_variant n mixed = within_node n (block_in n)

-- a node as an enum, the first that fits: the string of a scalar node; the only node of its block; its only property, without arguments and
-- block; the node itself
abbrev pub node_variant : Node → Variant
node_variant n = shaped_variant n (shape n)

-- the mark of an answer that is an enum: a word's
abbrev pub variant_mark : Variant → Option Mark
variant_mark (word t m) = Some m
variant_mark (of_node n) = None
variant_mark (of_property p) = None

abbrev pub variant_name : Variant → List ℕ
variant_name (word t m) = t
variant_name (of_node n) = called n
variant_name (of_property p) = p.name.bytes

-- the mark at the name
abbrev pub name_mark : Variant → Mark
name_mark (word t m) = m
name_mark (of_node n) = at_node_name n
name_mark (of_property p) = at_property_name p

-- unit closes the enum, with the mark of this answer; newtype goes to a place; tuple and struct make a sequence or a map of it; or it is refused
pub data Inner : Type 0 where
  closes : Option Mark → Inner
  goes_to : Place → Inner
  sequence_of : List Place → Inner
  map_of : List Item → Inner
  declined : Refusal → Inner

abbrev pub inner : Variant → Content → Inner
inner (word t m) ask.Unit = closes (Some m)
inner (word t m) ask.Newtype = declined (word_content m)
inner (word t m) ask.Tuple = declined (word_content m)
inner (word t m) ask.Struct = declined (word_content m)
inner (of_node n) ask.Unit = closes None
inner (of_node n) ask.Newtype = goes_to (a_node n)
inner (of_node n) ask.Tuple = sequence_of (elements n)
inner (of_node n) ask.Struct = map_of (map_list n)
inner (of_property p) ask.Unit = closes None
inner (of_property p) ask.Newtype = goes_to (value p.entry)
inner (of_property p) ask.Tuple = declined (unfit cause.Property (Some (at_property_content p)))
inner (of_property p) ask.Struct = declined (unfit cause.Property (Some (at_property_content p)))
