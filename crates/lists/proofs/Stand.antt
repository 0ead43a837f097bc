-- The nodes that stand in a list are those of its groups. Assumes nothing.
use Rattle.std.proofs.Common.{◌≡◌, ℕ, suc, Bool, true, false, List, [], ◌∷◌, ◌++◌, map, Some, None, Option, refl, ap, ◌∙◌, append-nil}
use Rattle.tree.specs.Document.{Ident, Node, Argument, Property, head_in, arguments, properties}
use Rattle.forms.specs.Forms.{Form, has}
use Rattle.forms.specs.Keys.{Key, name, type, args, rest, argument, argument_type, at_property, at_property_type, omitted, spelled}
use Rattle.lists.specs.Each.{when, if_some, for_each}
use Rattle.lists.specs.Properties.{in_force}
use Rattle.lists.specs.Groups.{Group, children, groups}
use Rattle.lists.specs.Places.{Place, Item, value, identifier, arg_list, omission}
use Rattle.lists.specs.Lists.{item, asked, together, group_item, argument_items, unasked, plain_property, property_items, unmet, omission_items, document_list, map_list, struct_list}
use Rattle.lists.specs.Partition.{joined}
use Rattle.lists.specs.Placement.{nodes_in, standing}
use Rattle.lists.proofs.Each.{each_++, each_each, each_map, each_same, each_none}

abbrev held : Item → List Node
held x = nodes_in x.place

kept : (c : Node) (cs : List Node) → nodes_in (together c cs) ≡ c ∷ cs
kept c [] = refl
kept c (d ∷ ds) = refl

pub stand_joined : (gs : List Group) → standing (map group_item gs) ≡ joined gs
stand_joined gs = each_map held group_item gs ∙ each_same (λ g. nodes_in (together g.first g.others)) (λ g. g.first ∷ g.others) (λ g. kept g.first g.others) gs

-- the other parts hold no node
no_when : (b : Bool) (x : Item) → held x ≡ [] → standing (when b x) ≡ []
no_when true x h = ap (λ l. l ++ []) h
no_when false x h = refl

no_some : (o : Option Ident) (g : Ident → List Item) → ((t : Ident) → standing (g t) ≡ []) → standing (if_some o g) ≡ []
no_some None g h = refl
no_some (Some t) g h = h t

no_++ : (xs ys : List Item) → standing xs ≡ [] → standing (xs ++ ys) ≡ standing ys
no_++ xs ys h = each_++ held xs ys ∙ ap (λ l. l ++ standing ys) h

no_each : {X : Type 0} (g : X → List Item) (xs : List X) → ((x : X) → standing (g x) ≡ []) → standing (for_each g xs) ≡ []
no_each g xs h = each_each held g xs ∙ each_none (λ x. standing (g x)) h xs

no_omissions : (n : Node) (i : ℕ) (f : Form) → standing (omission_items n i f) ≡ []
no_omissions n i [] = refl
no_omissions n i (m ∷ ms) =
    no_++ (when (unmet n m) (item (omitted i m) omission)) (omission_items n (suc i) ms) (no_when (unmet n m) (item (omitted i m) omission) refl) ∙ no_omissions n (suc i) ms

pub stand_in_map : (n : Node) → standing (map_list n) ≡ joined (groups (children n))
stand_in_map n =
    no_++ (map plain_property (in_force (properties n))) (document_list (children n)) (each_map held plain_property (in_force (properties n)) ∙ each_none (λ p. []) (λ p. refl) (in_force (properties n)))
    ∙ stand_joined (groups (children n))

module _ (f : Form) where
  no_asked : (k : Key) (p : Place) → nodes_in p ≡ [] → standing (asked f k p) ≡ []
  no_asked k p h = no_when (has f (spelled k)) (item k p) h

  no_argument : (a : Argument) → standing (argument_items f a) ≡ []
  no_argument a =
      no_++ (if_some a.entry.type typed) (asked f (argument a.number) (value a.entry)) (no_some a.entry.type typed (λ t. refl))
      ∙ no_asked (argument a.number) (value a.entry) refl
    where
      typed : Ident → List Item
      typed t = item (argument_type a.number) (identifier t) ∷ []

  no_property : (p : Property) → standing (property_items f p) ≡ []
  no_property p =
      no_++ (asked f (at_property p.name.bytes) (value p.entry)) (if_some p.entry.type typed ++ plain_property p ∷ []) (no_asked (at_property p.name.bytes) (value p.entry) refl)
      ∙ no_++ (if_some p.entry.type typed) (plain_property p ∷ []) (no_some p.entry.type typed (λ t. no_asked (at_property_type p.name.bytes) (identifier t) refl))
    where
      typed : Ident → List Item
      typed t = asked f (at_property_type p.name.bytes) (identifier t)

  pub stand_in_struct : (n : Node) → standing (struct_list f n) ≡ joined (groups (children n))
  stand_in_struct n =
      no_++ (asked f name (identifier (head_in n).name)) _ (no_asked name (identifier (head_in n).name) refl)
      ∙ no_++ (if_some (head_in n).type (λ t. asked f type (identifier t))) _ (no_some (head_in n).type (λ t. asked f type (identifier t)) (λ t. no_asked type (identifier t) refl))
      ∙ no_++ (for_each (argument_items f) (arguments n)) _ (no_each (argument_items f) (arguments n) no_argument)
      ∙ no_++ (asked f args (arg_list (arguments n))) _ (no_asked args (arg_list (arguments n)) refl)
      ∙ no_++ (asked f rest (arg_list (unasked f (arguments n)))) _ (no_asked rest (arg_list (unasked f (arguments n))) refl)
      ∙ no_++ (for_each (property_items f) (in_force (properties n))) _ (no_each (property_items f) (in_force (properties n)) no_property)
      ∙ each_++ held (document_list (children n)) (omission_items n 0 f)
      ∙ ap (λ l. standing (document_list (children n)) ++ l) (no_omissions n 0 f) ∙ append-nil (standing (document_list (children n)))
      ∙ stand_joined (groups (children n))
