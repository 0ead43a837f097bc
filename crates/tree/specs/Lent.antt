-- What the values that a tree lends say. Assumes nothing.
use Rattle.tree.specs.declared.span.Identifier.{Identifier}
use Rattle.tree.specs.declared.value.Value.{Value}
use Rattle.tree.specs.declared.value.Value.TheVariants.{Null, String, Integer, Float, Bool}
use Rattle.tree.specs.Document as document

abbrev pub ident_of : Identifier → document.Ident
ident_of i = record { bytes = i.bytes.now; span = i.span }

abbrev pub value_of : Value → document.Value
value_of Null = document.null
value_of (String s) = document.string s.now
value_of (Integer n) = document.integer n
value_of (Float x) = document.float x
value_of (Bool b) = document.bool b
