-- What a node has, as far as an answer asks. Assumes nothing.
use Rattle.std.specs.Prelude.{List, [], ◌∷◌, map}
use Rattle.tree.specs.Document.{Entry, Argument, Property, Node, Block, no_block, block, block_in, listed, arguments, properties}
use Rattle.lists.specs.Places.{Place, a_node, value}

-- empty: no entries and no block. Scalar: one argument, no property and no block. Several: two or more arguments, no property and no block.
-- Mixed: all else
pub data Shape : Type 0 where
  empty : Shape
  scalar : Entry → Shape
  several : Shape
  mixed : Shape

abbrev shaped : Block → List Property → List Argument → Shape
shaped (block ns) ps as' = mixed
shaped no_block (p ∷ ps) as' = mixed
shaped no_block [] [] = empty
shaped no_block [] (a ∷ []) = scalar a.entry
shaped no_block [] (a ∷ (b ∷ cs)) = several

abbrev pub shape : Node → Shape
shape n = shaped (block_in n) (properties n) (arguments n)

abbrev pub values : List Argument → List Place
values as' = map (λ a. value a.entry) as'

abbrev pub nodes : List Node → List Place
nodes ns = map a_node ns

abbrev elements_of : Block → List Argument → List Place
elements_of (block ns) as' = nodes (listed ns)
elements_of no_block as' = values as'

-- a node as a sequence: the nodes of its block, or its arguments where it has no block
abbrev pub elements : Node → List Place
elements n = elements_of (block_in n) (arguments n)
