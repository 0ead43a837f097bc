-- What each place answers to each request. Assumes nothing.
use Rattle.std.specs.Prelude.{◌≡◌, ℕ, ◌^◌, Bool, true, false, cond, List, [], ◌∷◌, ℤ, pos, negsuc, Some, None, Option, nat_lt}
use Rattle.tree.specs.declared.value.Integer.{Integer}
use Rattle.tree.specs.Document.{Value, null, string, integer, float, bool, Ident, Entry, Node, arguments}
use Rattle.tree.specs.Numbers.{integer_value}
use Rattle.forms.specs.Forms.{Form, nth}
use Rattle.lists.specs.Places.{Place, document, a_node, value, identifier, a_group, arg_list, omission, Item}
use Rattle.lists.specs.Lists.{document_list, map_list, struct_list}
use Rattle.replies.specs.declared.cause.Cause.TheVariants as cause
use Rattle.replies.specs.declared.mark.Mark.{Mark}
use Rattle.replies.specs.declared.request.Request.{Request}
use Rattle.replies.specs.declared.request.Request.TheVariants as ask
use Rattle.replies.specs.Marks.{at_value, at_identifier, at_node}
use Rattle.replies.specs.Refusals.{Refusal, no_form, unfit}
use Rattle.replies.specs.Shapes.{Shape, empty, scalar, several, mixed, shape, values, nodes, elements}
use Rattle.replies.specs.Variants.{Variant, word, of_node, node_variant, variant_mark}

-- an integer is signed or unsigned, of 64 bits, or wide, by its halves; a float is its bits. Some and newtype say that the place is there and
-- can be asked again
pub data Reply : Type 0 where
  text : List ℕ → Reply
  signed : ℤ → Reply
  unsigned : ℕ → Reply
  wide : Integer → Reply
  bits : ℕ → Reply
  truth : Bool → Reply
  unit : Reply
  none : Reply
  some : Reply
  newtype : Reply
  sequence : List Place → Reply
  mapping : List Item → Reply
  enum : Variant → Reply

-- a reply with its mark, or a refusal
pub data Answer : Type 0 where
  given : Reply → Option Mark → Answer
  refused : Refusal → Answer

abbrev pub unmarked : Reply → Answer
unmarked r = given r None

abbrev pub fitting : ℤ → Integer → Reply
fitting (pos n) i = cond (nat_lt n (2 ^ 63)) (signed (pos n)) (cond (nat_lt n (2 ^ 64)) (unsigned n) (wide i))
fitting (negsuc n) i = cond (nat_lt n (2 ^ 63)) (signed (negsuc n)) (wide i)

-- signed if 64 bits hold it so, else unsigned if they hold it so, else its halves
abbrev pub integer_reply : Integer → Reply
integer_reply i = fitting (integer_value i) i

abbrev pub value_reply : Value → Reply
value_reply null = unit
value_reply (string t) = text t
value_reply (integer i) = integer_reply i
value_reply (float b) = bits b
value_reply (bool b) = truth b

-- a value's any
abbrev pub value_any : Entry → Answer
value_any e = given (value_reply e.value) (Some (at_value e))

abbrev null_or : {X : Type 0} → Value → X → X → X
null_or null x y = x
null_or (string t) x y = y
null_or (integer i) x y = y
null_or (float b) x y = y
null_or (bool b) x y = y

abbrev word_of : Value → Mark → Answer
word_of (string t) m = given (enum (word t m)) (Some m)
word_of null m = refused (unfit cause.Word (Some m))
word_of (integer i) m = refused (unfit cause.Word (Some m))
word_of (float b) m = refused (unfit cause.Word (Some m))
word_of (bool b) m = refused (unfit cause.Word (Some m))

abbrev pub identifier_text : Ident → Answer
identifier_text t = given (text t.bytes) (Some (at_identifier t))

abbrev node_any : Node → Shape → Answer
node_any n empty = unmarked (truth true)
node_any n (scalar e) = value_any e
node_any n several = unmarked (sequence (values (arguments n)))
node_any n mixed = unmarked (mapping (map_list n))

abbrev node_bool : Node → Shape → Answer
node_bool n empty = unmarked (truth true)
node_bool n (scalar e) = value_any e
node_bool n several = refused (unfit cause.Flag (Some (at_node n)))
node_bool n mixed = refused (unfit cause.Flag (Some (at_node n)))

abbrev node_option : Shape → Reply
node_option empty = none
node_option (scalar e) = null_or e.value none some
node_option several = some
node_option mixed = some

abbrev pub enum_of : Variant → Answer
enum_of v = given (enum v) (variant_mark v)

abbrev only_node : List Node → Answer
only_node [] = refused (unfit cause.OneNode None)
only_node (n ∷ []) = enum_of (of_node n)
only_node (n ∷ (m ∷ ns)) = refused (unfit cause.OneNode None)

abbrev none_or_some : {X : Type 0} → List X → Reply
none_or_some [] = none
none_or_some (x ∷ xs) = some

-- a struct whose number no form has is refused, before the place is looked at
abbrev pub with_form : Option Form → (Form → Answer) → Answer
with_form None g = refused no_form
with_form (Some f) g = g f

-- the forms go by their numbers
abbrev pub reply : List Form → Place → Request → Answer
reply fs (document ns) ask.Any = unmarked (mapping (document_list ns))
reply fs (document ns) ask.Bool = unmarked (mapping (document_list ns))
reply fs (document ns) ask.Option = unmarked (none_or_some ns)
reply fs (document ns) ask.Unit = unmarked unit
reply fs (document ns) ask.Newtype = unmarked newtype
reply fs (document ns) ask.Seq = unmarked (sequence (nodes ns))
reply fs (document ns) ask.Map = unmarked (mapping (document_list ns))
reply fs (document ns) (ask.Struct i) = with_form (nth fs i) (λ f. unmarked (mapping (document_list ns)))
reply fs (document ns) ask.Enum = only_node ns
reply fs (a_node n) ask.Any = node_any n (shape n)
reply fs (a_node n) ask.Bool = node_bool n (shape n)
reply fs (a_node n) ask.Option = unmarked (node_option (shape n))
reply fs (a_node n) ask.Unit = unmarked unit
reply fs (a_node n) ask.Newtype = unmarked newtype
reply fs (a_node n) ask.Seq = unmarked (sequence (elements n))
reply fs (a_node n) ask.Map = unmarked (mapping (map_list n))
reply fs (a_node n) (ask.Struct i) = with_form (nth fs i) (λ f. unmarked (mapping (struct_list f n)))
reply fs (a_node n) ask.Enum = enum_of (node_variant n)
reply fs (value e) ask.Any = value_any e
reply fs (value e) ask.Bool = value_any e
reply fs (value e) ask.Option = null_or e.value (given none (Some (at_value e))) (unmarked some)
reply fs (value e) ask.Unit = value_any e
reply fs (value e) ask.Newtype = unmarked newtype
reply fs (value e) ask.Seq = value_any e
reply fs (value e) ask.Map = value_any e
reply fs (value e) (ask.Struct i) = with_form (nth fs i) (λ f. value_any e)
reply fs (value e) ask.Enum = word_of e.value (at_value e)
reply fs (identifier t) ask.Any = identifier_text t
reply fs (identifier t) ask.Bool = identifier_text t
reply fs (identifier t) ask.Option = identifier_text t
reply fs (identifier t) ask.Unit = identifier_text t
reply fs (identifier t) ask.Newtype = unmarked newtype
reply fs (identifier t) ask.Seq = identifier_text t
reply fs (identifier t) ask.Map = identifier_text t
reply fs (identifier t) (ask.Struct i) = with_form (nth fs i) (λ f. identifier_text t)
reply fs (identifier t) ask.Enum = enum_of (word t.bytes (at_identifier t))
reply fs (a_group ns) ask.Any = unmarked (sequence (nodes ns))
reply fs (a_group ns) ask.Bool = unmarked (sequence (nodes ns))
reply fs (a_group ns) ask.Option = unmarked (sequence (nodes ns))
reply fs (a_group ns) ask.Unit = unmarked (sequence (nodes ns))
reply fs (a_group ns) ask.Newtype = unmarked (sequence (nodes ns))
reply fs (a_group ns) ask.Seq = unmarked (sequence (nodes ns))
reply fs (a_group ns) ask.Map = unmarked (sequence (nodes ns))
reply fs (a_group ns) (ask.Struct i) = with_form (nth fs i) (λ f. unmarked (sequence (nodes ns)))
reply fs (a_group ns) ask.Enum = unmarked (sequence (nodes ns))
reply fs (arg_list as') ask.Any = unmarked (sequence (values as'))
reply fs (arg_list as') ask.Bool = unmarked (sequence (values as'))
reply fs (arg_list as') ask.Option = unmarked (none_or_some as')
reply fs (arg_list as') ask.Unit = unmarked (sequence (values as'))
reply fs (arg_list as') ask.Newtype = unmarked newtype
reply fs (arg_list as') ask.Seq = unmarked (sequence (values as'))
reply fs (arg_list as') ask.Map = unmarked (sequence (values as'))
reply fs (arg_list as') (ask.Struct i) = with_form (nth fs i) (λ f. unmarked (sequence (values as')))
reply fs (arg_list as') ask.Enum = unmarked (sequence (values as'))
reply fs omission ask.Any = unmarked (truth false)
reply fs omission ask.Bool = unmarked (truth false)
reply fs omission ask.Option = unmarked none
reply fs omission ask.Unit = unmarked (truth false)
reply fs omission ask.Newtype = unmarked (truth false)
reply fs omission ask.Seq = unmarked (truth false)
reply fs omission ask.Map = unmarked (truth false)
reply fs omission (ask.Struct i) = with_form (nth fs i) (λ f. unmarked (truth false))
reply fs omission ask.Enum = unmarked (truth false)

-- whatever the place
abbrev pub UnknownRefused : Type 0
UnknownRefused = (fs : List Form) (p : Place) (i : ℕ) → nth fs i ≡ None → reply fs p (ask.Struct i) ≡ refused no_form
