-- Places, and the items of a list: keys with the places of their values. Assumes nothing.
use Rattle.std.specs.Prelude.{List}
use Rattle.tree.specs.Document.{Ident, Entry, Argument, Node}
use Rattle.forms.specs.Keys.{Key}

-- what may be asked: a document by its nodes, a node, the value of an entry, an identifier, two or more nodes of one name, arguments, and
-- what a form names and the node lacks
pub data Place : Type 0 where
  document : List Node → Place
  a_node : Node → Place
  value : Entry → Place
  identifier : Ident → Place
  a_group : List Node → Place
  arg_list : List Argument → Place
  omission : Place

pub record Item : Type 0 where
  pub key : Key
  pub place : Place
