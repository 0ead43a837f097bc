-- What a KDL document is. Assumes nothing.
use Rattle.std.specs.Prelude.{ℕ, suc, max, Bool, true, false, List, [], ◌∷◌, Some, None, Option}
use Rattle.tree.specs.declared.handle.NodeHandle.{NodeHandle}
use Rattle.tree.specs.declared.handle.EntryHandle.{EntryHandle}
use Rattle.tree.specs.declared.span.Span.{Span}
use Rattle.tree.specs.declared.value.Integer.{Integer}

-- an identifier, as a name or a type is: its bytes, and where it stood in the file
pub record Ident : Type 0 where
  pub bytes : List ℕ
  pub span : Span

-- a float is its 64 bits
pub data Value : Type 0 where
  null : Value
  string : List ℕ → Value
  integer : Integer → Value
  float : ℕ → Value
  bool : Bool → Value

-- without a name an argument, with one a property
pub record Entry : Type 0 where
  pub handle : EntryHandle
  pub name : Option Ident
  pub type : Option Ident
  pub value : Value
  pub span : Span

-- all that a node says of itself but its block
pub record Head : Type 0 where
  pub name : Ident
  pub type : Option Ident
  pub span : Span
  pub entries : List Entry

-- a document is a list of nodes; a block that is there may be empty
mutual
  pub data Node : Type 0 where
    node : NodeHandle → Head → Block → Node

  pub data Block : Type 0 where
    no_block : Block
    block : Nodes → Block

  pub data Nodes : Type 0 where
    nil : Nodes
    cons : Node → Nodes → Nodes

abbrev pub handle_in : Node → NodeHandle
handle_in (node h head b) = h

abbrev pub head_in : Node → Head
head_in (node h head b) = head

abbrev pub block_in : Node → Block
block_in (node h head b) = b

abbrev pub listed : Nodes → List Node
listed nil = []
listed (cons n ns) = n ∷ listed ns

-- the nodes in a block, none where it is not there
abbrev pub within : Block → Nodes
within no_block = nil
within (block ns) = ns

abbrev pub is_block : Block → Bool
is_block no_block = false
is_block (block ns) = true

-- how deep nodes nest
abbrev mutual
  pub depth : Nodes → ℕ
  depth nil = 0
  depth (cons n ns) = max (depth_node n) (depth ns)

  pub depth_node : Node → ℕ
  depth_node (node h head b) = suc (depth_block b)

  pub depth_block : Block → ℕ
  depth_block no_block = 0
  depth_block (block ns) = depth ns

-- an argument, with its number in its node
pub record Argument : Type 0 where
  pub number : ℕ
  pub entry : Entry

-- a property, with its name
pub record Property : Type 0 where
  pub name : Ident
  pub entry : Entry

abbrev pub argument_then : Option Ident → ℕ → Entry → List Argument → List Argument
argument_then None i e more = record { number = i; entry = e } ∷ more
argument_then (Some n) i e more = more

abbrev pub number_after : Option Ident → ℕ → ℕ
number_after None i = suc i
number_after (Some n) i = i

abbrev pub arguments_from : ℕ → List Entry → List Argument
arguments_from i [] = []
arguments_from i (e ∷ es) = argument_then e.name i e (arguments_from (number_after e.name i) es)

-- the entries without a name, in order, numbered from 0
abbrev pub arguments : Node → List Argument
arguments n = arguments_from 0 (head_in n).entries

abbrev pub property_then : Option Ident → Entry → List Property → List Property
property_then None e more = more
property_then (Some n) e more = record { name = n; entry = e } ∷ more

abbrev pub properties_in : List Entry → List Property
properties_in [] = []
properties_in (e ∷ es) = property_then e.name e (properties_in es)

-- the entries with a name, in order
abbrev pub properties : Node → List Property
properties n = properties_in (head_in n).entries
