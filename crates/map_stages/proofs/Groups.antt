-- Groups and omissions, from what the tree answered. Assumes nothing.
use Rattle.std.proofs.Common.{◌≡◌, ℕ, Bool, true, false, not, ◌&&◌, List, [], ◌∷◌, ◌++◌, map, Some, None, Option, sym, ap, ◌∙◌}
use Rattle.std.proofs.lemmas.Bool.{and_left, and_right}
use Rattle.tree.specs.declared.handle.NodeHandle.{NodeHandle}
use Rattle.tree.specs.Document.{Ident, Nodes, head_in, properties, properties_in}
use Rattle.tree.specs.Going as going
use Rattle.tree.specs.Going.{Spot, then, found, first, first_of, first_entry, next_sibling}
use Rattle.tree.specs.Limits.{Lawful}
use Rattle.spots.specs.Rows.{row, earlier, entry_row, inner, inner_of}
use Rattle.spots.proofs.Finding.{none_some}
use Rattle.spots.proofs.Rows.{row_next, row_inner, entry_row_first}
use Rattle.forms.specs.Forms.{Form}
use Rattle.forms.specs.Keys.{group, plain}
use Rattle.lists.specs.Properties.{is_property}
use Rattle.lists.specs.Groups.{Group, called, children, is_child, those_called, groups_after}
use Rattle.lists.specs.Lists.{item, together, group_item, unmet}
use Rattle.lists.specs.Places as places
use Rattle.places.specs.declared.place.Place.{Place}
use Rattle.places.specs.declared.place.Place.TheVariants as place
use Rattle.places.specs.declared.item.KeyKind.TheVariants as kind
use Rattle.places.specs.declared.item.Part.TheVariants as part
use Rattle.places.specs.declared.item.Item.{Item}
use Rattle.places.specs.Meant.{at_spot, name_bytes, meant, item_meant}
use Rattle.map_stages.proofs.Steps.{groups_behind}

-- the nodes of one name that begin at a node
abbrev pub group_at : Spot → Group
group_at g = record { first = g.self; others = those_called (called g.self) g.after }

module _ (d : Nodes) (law : Lawful d) (fs : List Form) (h : NodeHandle) (g : Spot) (is : found d h ≡ Some g) where
  name_is : (m : Ident) → Some m ≡ going.name d h → m.bytes ≡ called g.self
  name_is m e =
      let k : Some m ≡ Some (head_in g.self).name = e ∙ ap (λ o. then o (λ (s : Spot). Some (head_in s.self).name)) is in
      let same : m ≡ (head_in g.self).name = cc in
      ap (λ (z : Ident). z.bytes) same

  pub nameless : (p : Place) → None ≡ going.name d h → meant d fs p ≡ together g.self (those_called (called g.self) g.after)
  nameless p e = none_some (head_in g.self).name (e ∙ ap (λ o. then o (λ (s : Spot). Some (head_in s.self).name)) is)

  -- a group of one is that node
  pub alone : (m : Ident) (nx : Option NodeHandle) → Some m ≡ going.name d h → nx ≡ next_sibling d h → those_called m.bytes (row d nx) ≡ [] → meant d fs (place.Node h) ≡ together g.self (those_called (called g.self) g.after)
  alone m nx e goes none =
      let r : row d nx ≡ g.after = ap (row d) (goes ∙ ap (λ o. then o (λ (s : Spot). first s.after)) is) ∙ row_next d law h g is in
      let k : those_called (called g.self) g.after ≡ [] = (λ i. those_called (sym (name_is m e) i) (sym r i)) ∙ none in
      ap (λ o. at_spot o (λ (s : Spot). places.a_node s.self)) is ∙ ap (together g.self) (sym k)

  pub several : meant d fs (place.Group h) ≡ together g.self (those_called (called g.self) g.after)
  several = ap (λ o. at_spot o (λ (s : Spot). together s.self (those_called (called s.self) s.after))) is

  pub group_meant : (p : Place) (x : Item) → meant d fs p ≡ together g.self (those_called (called g.self) g.after)
      → x ≡ record { key = record { kind = kind.Group; number = 0; part = part.Node h }; place = p } → item_meant d fs x ≡ group_item (group_at g)
  group_meant p x e q = ap (item_meant d fs) q ∙ (λ i. item (group (name_bytes (is i))) (e i))

-- the next group of a document, and those behind it
pub document_next : (d : Nodes) (law : Lawful d) (fs : List Form) (at : Option NodeHandle) (k : NodeHandle) (g : Spot) (nx : Option NodeHandle) (x : Item) → found d k ≡ Some g
    → groups_after (earlier d at) (row d at) ≡ group_at g ∷ groups_after (g.before ++ g.self ∷ []) g.after → nx ≡ next_sibling d k → item_meant d fs x ≡ group_item (group_at g)
    → map group_item (groups_after (earlier d at) (row d at)) ≡ item_meant d fs x ∷ map group_item (groups_after (earlier d nx) (row d nx))
document_next d law fs at k g nx x is e goes q =
    let next = goes ∙ ap (λ o. then o (λ (z : Spot). first z.after)) is in
    let behind : groups_after (earlier d nx) (row d nx) ≡ groups_after (g.before ++ g.self ∷ []) g.after = ap (λ o. groups_after (earlier d o) (row d o)) next ∙ groups_behind d law k g is in
    ap (map group_item) e ∙ (λ i. sym q i ∷ map group_item (sym behind i))

module _ (d : Nodes) (law : Lawful d) (h : NodeHandle) (s : Spot) (is : found d h ≡ Some s) (m : List ℕ) where
  has_property_is : (b : Bool) (at : Option _) → at ≡ first_entry d h → b ≡ is_property (properties_in (entry_row d at)) m → b ≡ is_property (properties s.self) m
  has_property_is b at a e = e ∙ ap (λ l. is_property (properties_in l) m) (ap (entry_row d) (a ∙ ap (λ o. then o (λ (z : Spot). first_of (head_in z.self).entries)) is) ∙ entry_row_first d law h s is)

  has_child_is : (b : Bool) (at : Option NodeHandle) → at ≡ first (inner d h) → b ≡ is_child (row d at) m → b ≡ is_child (children s.self) m
  has_child_is b at a e = e ∙ ap (λ l. is_child l m) (ap (row d) (a ∙ ap (λ o. first (inner_of o)) is) ∙ row_inner d law h s is)

  pub not_plain : false ≡ plain m → false ≡ unmet s.self m
  not_plain e = sym (and_left (plain m) (not (is_property (properties s.self) m) && not (is_child (children s.self) m)) (sym e))

  pub names_property : (at : Option _) → at ≡ first_entry d h → true ≡ is_property (properties_in (entry_row d at)) m → false ≡ unmet s.self m
  names_property at a e =
      let k = has_property_is true at a e in
      sym (and_right (plain m) (not (is_property (properties s.self) m) && not (is_child (children s.self) m)) (ap (λ c. not c && not (is_child (children s.self) m)) (sym k)))

  pub names_child : (b : Bool) (at : Option _) (k : Option NodeHandle) → true ≡ plain m → at ≡ first_entry d h → false ≡ is_property (properties_in (entry_row d at)) m → k ≡ first (inner d h) → b ≡ is_child (row d k) m → not b ≡ unmet s.self m
  names_child b at k p a e c f = (λ i. p i && (not (has_property_is false at a e i) && not (has_child_is b k c f i)))
