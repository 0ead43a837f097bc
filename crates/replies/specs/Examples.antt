-- The worked examples, as rows of one table. Assumes nothing.
use Rattle.std.specs.Prelude.{◌≡◌, ℕ, ◌-◌, ◌^◌, true, List, [], ◌∷◌, ℤ, pos, negsuc, Some, None, codes}
use Rattle.std.specs.List.{AllByRecursion}
use Rattle.tree.specs.declared.span.Span.{Span}
use Rattle.tree.specs.Document.{Ident, Value, string, integer, Entry, Argument, Property, Node, node, Block, no_block, block, nil}
use Rattle.forms.specs.Forms.{Form}
use Rattle.forms.specs.Keys.{Key, argument, rest, property, group, spelled}
use Rattle.lists.specs.Lists.{item}
use Rattle.lists.specs.Places.{Place, document, a_node, value, a_group, arg_list}
use Rattle.replies.specs.declared.content.Content.{Content}
use Rattle.replies.specs.declared.content.Content.TheVariants as content
use Rattle.replies.specs.declared.request.Request.{Request}
use Rattle.replies.specs.declared.request.Request.TheVariants as ask
use Rattle.replies.specs.Marks.{at_value, at_word}
use Rattle.replies.specs.Refusals.{Refusal, word_content, refusal_number}
use Rattle.replies.specs.Variants.{Variant, word, of_property, variant_name, Inner, goes_to, declined, inner}
use Rattle.replies.specs.Replies.{Answer, given, unmarked, signed, unsigned, wide, truth, none, some, sequence, mapping, enum, reply}

-- what is asked, and what the answer is: a place with a request, the content of a variant, the name of a variant, the bytes of a key, and the
-- number of a refusal
pub data Row : Type 0 where
  asks : Place → Request → Answer → Row
  follows : Variant → Content → Inner → Row
  is_called : Variant → List ℕ → Row
  spells : Key → List ℕ → Row
  has_number : Refusal → ℕ → Row

abbrev pub Holds : List Form → Row → Type 0
Holds fs (asks p r a) = reply fs p r ≡ a
Holds fs (follows v c i) = inner v c ≡ i
Holds fs (is_called v m) = variant_name v ≡ m
Holds fs (spells k m) = spelled k ≡ m
Holds fs (has_number r n) = refusal_number r ≡ n

-- documents, written short: all handles are 0, a span is a start and a length
abbrev at : ℕ → ℕ → Span
at s l = record { start = s; length = l }

abbrev ident : List ℕ → Span → Ident
ident b s = record { bytes = b; span = s }

abbrev num : ℕ → Value
num n = integer (record { high = pos 0; low = n })

abbrev arg : Value → Span → Entry
arg v s = record { handle = record { number = 0 }; name = None; type = None; value = v; span = s }

abbrev prop : Ident → Value → Span → Entry
prop k v s = record { handle = record { number = 0 }; name = Some k; type = None; value = v; span = s }

abbrev node_of : Ident → Span → List Entry → Block → Node
node_of m s es b = node (record { number = 0 }) (record { name = m; type = None; span = s; entries = es }) b

-- `lamp`
abbrev lamp : Node
lamp = node_of (ident (codes "lamp") (at 0 4)) (at 0 4) [] no_block

-- `lamp {}`
abbrev lamp_block : Node
lamp_block = node_of (ident (codes "lamp") (at 0 4)) (at 0 7) [] (block nil)

-- `row 1 2 3`
abbrev one : Entry
one = arg (num 1) (at 4 1)

abbrev two : Entry
two = arg (num 2) (at 6 1)

abbrev three : Entry
three = arg (num 3) (at 8 1)

abbrev row : Node
row = node_of (ident (codes "row") (at 0 3)) (at 0 9) (one ∷ two ∷ three ∷ []) no_block

abbrev numbered : ℕ → Entry → Argument
numbered i e = record { number = i; entry = e }

-- `a 1; b 2; a 3`
abbrev first_a : Node
first_a = node_of (ident (codes "a") (at 0 1)) (at 0 3) (arg (num 1) (at 2 1) ∷ []) no_block

abbrev only_b : Node
only_b = node_of (ident (codes "b") (at 5 1)) (at 5 3) (arg (num 2) (at 7 1) ∷ []) no_block

abbrev second_a : Node
second_a = node_of (ident (codes "a") (at 10 1)) (at 10 3) (arg (num 3) (at 12 1) ∷ []) no_block

-- `p x=1 y=2 x=3`
abbrev early_x : Entry
early_x = prop (ident (codes "x") (at 2 1)) (num 1) (at 2 3)

abbrev y : Entry
y = prop (ident (codes "y") (at 6 1)) (num 2) (at 6 3)

abbrev late_x : Entry
late_x = prop (ident (codes "x") (at 10 1)) (num 3) (at 10 3)

abbrev xyx : Node
xyx = node_of (ident (codes "p") (at 0 1)) (at 0 13) (early_x ∷ y ∷ late_x ∷ []) no_block

-- an integer of these halves, as an argument
abbrev halves : ℤ → ℕ → Entry
halves h l = arg (integer (record { high = h; low = l })) (at 2 1)

-- `door "open"`
abbrev open_word : Entry
open_word = arg (string (codes "open")) (at 5 6)

abbrev door : Node
door = node_of (ident (codes "door") (at 0 4)) (at 0 11) (open_word ∷ []) no_block

-- `p x=3 x=4`
abbrev later : Ident
later = ident (codes "x") (at 6 1)

abbrev x4 : Entry
x4 = prop later (num 4) (at 6 3)

abbrev xx : Node
xx = node_of (ident (codes "p") (at 0 1)) (at 0 9) (prop (ident (codes "x") (at 2 1)) (num 3) (at 2 3) ∷ x4 ∷ []) no_block

abbrev x4_property : Property
x4_property = record { name = later; entry = x4 }

-- form 0
abbrev pub forms : List Form
forms = (codes "#0" ∷ codes "#rest" ∷ []) ∷ []

abbrev pub examples : List Row
examples =
    -- 1. `lamp`
    asks (a_node lamp) ask.Any (unmarked (truth true))
    ∷ asks (a_node lamp) ask.Option (unmarked none)
    -- 2. `lamp {}`
    ∷ asks (a_node lamp_block) ask.Any (unmarked (mapping []))
    ∷ asks (a_node lamp_block) ask.Option (unmarked some)
    -- 3. `row 1 2 3` with the form "#0", "#rest"
    ∷ asks (a_node row) (ask.Struct 0) (unmarked (mapping (item (argument 0) (value one) ∷ item rest (arg_list (numbered 1 two ∷ numbered 2 three ∷ [])) ∷ [])))
    ∷ spells (argument 0) (codes "#0")
    ∷ spells rest (codes "#rest")
    ∷ asks (value one) ask.Any (given (signed (pos 1)) (Some (at_value one)))
    ∷ asks (arg_list (numbered 1 two ∷ numbered 2 three ∷ [])) ask.Seq (unmarked (sequence (value two ∷ value three ∷ [])))
    ∷ asks (value two) ask.Any (given (signed (pos 2)) (Some (at_value two)))
    ∷ asks (value three) ask.Any (given (signed (pos 3)) (Some (at_value three)))
    -- 4. `a 1; b 2; a 3`
    ∷ asks (document (first_a ∷ only_b ∷ second_a ∷ [])) ask.Map
    (unmarked (mapping (item (group (codes "a")) (a_group (first_a ∷ second_a ∷ [])) ∷ item (group (codes "b")) (a_node only_b) ∷ [])))
    -- 5. `p x=1 y=2 x=3` as a map
    ∷ asks (a_node xyx) ask.Map (unmarked (mapping (item (property (codes "y")) (value y) ∷ item (property (codes "x")) (value late_x) ∷ [])))
    ∷ asks (value y) ask.Any (given (signed (pos 2)) (Some (at_value y)))
    ∷ asks (value late_x) ask.Any (given (signed (pos 3)) (Some (at_value late_x)))
    -- 6. integers by their halves, high and low; negsuc k is -1 - k
    ∷ asks (value (halves (pos 0) (2 ^ 63 - 1))) ask.Any (given (signed (pos (2 ^ 63 - 1))) (Some (at_value (halves (pos 0) (2 ^ 63 - 1)))))
    ∷ asks (value (halves (pos 0) (2 ^ 63))) ask.Any (given (unsigned (2 ^ 63)) (Some (at_value (halves (pos 0) (2 ^ 63)))))
    ∷ asks (value (halves (negsuc 0) (2 ^ 63))) ask.Any (given (signed (negsuc (2 ^ 63 - 1))) (Some (at_value (halves (negsuc 0) (2 ^ 63)))))
    ∷ asks (value (halves (negsuc 0) (2 ^ 63 - 1))) ask.Any (given (wide (record { high = negsuc 0; low = 2 ^ 63 - 1 })) (Some (at_value (halves (negsuc 0) (2 ^ 63 - 1)))))
    -- 7. `door "open"` as an enum
    ∷ asks (a_node door) ask.Enum (given (enum (word (codes "open") (at_word open_word))) (Some (at_word open_word)))
    ∷ is_called (word (codes "open") (at_word open_word)) (codes "open")
    ∷ follows (word (codes "open") (at_word open_word)) content.Newtype (declined (word_content (at_word open_word)))
    ∷ has_number (word_content (at_word open_word)) 7
    -- 8. `p x=3 x=4` as an enum
    ∷ asks (a_node xx) ask.Enum (unmarked (enum (of_property x4_property)))
    ∷ is_called (of_property x4_property) (codes "x")
    ∷ follows (of_property x4_property) content.Newtype (goes_to (value x4))
    ∷ asks (value x4) ask.Any (given (signed (pos 4)) (Some (at_value x4)))
    ∷ []

-- each row holds
abbrev pub Examples : Type 0
Examples = AllByRecursion (Holds forms) examples
