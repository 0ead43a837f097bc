-- What an error at an answer says of it: labels, and marks of values and identifiers. Assumes nothing.
use Rattle.std.specs.Prelude.{ℕ, List, codes}
use Rattle.tree.specs.declared.span.Span.{Span}
use Rattle.tree.specs.Document.{Ident, Entry, Node, Property, head_in}
use Rattle.replies.specs.declared.mark.Label.{Label}
use Rattle.replies.specs.declared.mark.Label.TheVariants as label
use Rattle.replies.specs.declared.mark.Mark.{Mark}

abbrev pub label_text : Label → List ℕ
label_text label.Identifier = codes "while deserializing this KDL identifier"
label_text label.Value = codes "while deserializing this KDL value"
label_text label.Variant = codes "while deserializing this enum variant"
label_text label.Node = codes "while deserializing this KDL node"
label_text label.Property = codes "while deserializing this KDL property"

abbrev pub mark : Label → Span → Mark
mark l s = record { label = l; span = s }

-- at a value
abbrev pub at_value : Entry → Mark
at_value e = mark label.Value e.span

-- at an identifier
abbrev pub at_identifier : Ident → Mark
at_identifier t = mark label.Identifier t.span

-- at the string of a node that is asked as an enum
abbrev pub at_word : Entry → Mark
at_word e = mark label.Variant e.span

-- at a node that is no flag
abbrev pub at_node : Node → Mark
at_node n = mark label.Node (head_in n).span

-- at the name of a node, or of a property, as a variant
abbrev pub at_node_name : Node → Mark
at_node_name n = mark label.Variant (head_in n).span

abbrev pub at_property_name : Property → Mark
at_property_name p = mark label.Variant p.entry.span

-- at a property whose content is refused
abbrev pub at_property_content : Property → Mark
at_property_content p = mark label.Property p.entry.span
