-- The parts of a list, told apart by the kinds of their keys. Assumes nothing.
use Rattle.std.proofs.Common.{◌≡◌, ℕ, suc, ◌<◌, ◌≤◌, Bool, true, false, cond, ◌&&◌, eqb, ◌⊎◌, List, [], ◌∷◌, ◌++◌, map, Some, None, filter, Option, refl, ap, ◌∙◌, ap₂, inl, inr, append-nil, arith, lit<, lit≤}
use Rattle.std.proofs.lemmas.Bool.{ne_eqb}
use Rattle.std.specs.List.{AllByRecursion}
use Rattle.std.specs.Str.{bytes_eq}
use Rattle.tree.specs.Document.{Ident, Node, Argument, Property, head_in, arguments, properties}
use Rattle.forms.specs.Forms.{Form, has}
use Rattle.forms.specs.Keys.{Key, name, type, args, rest, argument, argument_type, at_property, at_property_type, omitted, spelled, same_key, rank}
use Rattle.lists.specs.Each.{when, if_some, for_each}
use Rattle.lists.specs.Properties.{in_force}
use Rattle.lists.specs.Groups.{Group, called, children, groups}
use Rattle.lists.specs.Places.{Place, Item, value, identifier, arg_list, omission}
use Rattle.lists.specs.Lists.{item, asked, argument_items, unasked, plain_property, property_items, group_item, unmet, omission_items, document_list, struct_list}
use Rattle.lists.specs.Placement.{under, StructKey, name_key, type_key, argument_type_key, argument_key, args_key, rest_key, at_property_key, at_property_type_key, property_key, group_key, omission_key}
use Rattle.lists.proofs.Each.{each_++, each_each, each_same, each_kept}

abbrev here : Key → Item → List Place
here k x = when (same_key x.key k) x.place

pub under_++ : (k : Key) (xs ys : List Item) → under k (xs ++ ys) ≡ under k xs ++ under k ys
under_++ k xs ys = each_++ (here k) xs ys

-- what stands under a key in what each element gives, where only those that pass give something under it
pub under_each : {X : Type 0} (k : Key) (items : X → List Item) (test : X → Bool) (g : X → List Place) → ((x : X) → under k (items x) ≡ cond (test x) (g x) [])
    → (xs : List X) → under k (for_each items xs) ≡ for_each g (filter test xs)
under_each k items test g e xs = each_each (here k) items xs ∙ each_same (λ x. under k (items x)) (λ x. cond (test x) (g x) []) e xs ∙ each_kept g test xs

pub under_when : (k j : Key) (t : Bool) → same_key j k ≡ t → (b : Bool) (p : Place) → under k (when b (item j p)) ≡ cond t (when b p) []
under_when k j t e true p = ap (λ x. when x p ++ []) e ∙ go t
  where
    go : (u : Bool) → when u p ++ [] ≡ cond u (p ∷ []) []
    go true = refl
    go false = refl
under_when k j t e false p = go t
  where
    go : (u : Bool) → [] ≡ cond {A = List Place} u [] []
    go true = refl
    go false = refl

pub under_some : (k j : Key) (t : Bool) → same_key j k ≡ t → (b : Bool) (o : Option Ident) → under k (if_some o (λ y. when b (item j (identifier y)))) ≡ cond t (if_some o (λ y. when b (identifier y))) []
under_some k j t e b None = go t
  where
    go : (u : Bool) → [] ≡ cond {A = List Place} u [] []
    go true = refl
    go false = refl
under_some k j t e b (Some y) = under_when k j t e b (identifier y)

abbrev pub kind : Key → ℕ
kind k = rank k.kind

-- the keys are keys of a struct list, of the kinds from lo on and below hi
pub data In (lo hi : ℕ) : List Item → Type 0 where
  done : In lo hi []
  more : {x : Item} {xs : List Item} → lo ≤ kind x.key → kind x.key < hi → StructKey x.key → In lo hi xs → In lo hi (x ∷ xs)

pub in_++ : {lo hi : ℕ} {xs ys : List Item} → In lo hi xs → In lo hi ys → In lo hi (xs ++ ys)
in_++ done g = g
in_++ (more p q s h) g = more p q s (in_++ h g)

pub widen : {lo hi lo' hi' : ℕ} {xs : List Item} → lo' ≤ lo → hi ≤ hi' → In lo hi xs → In lo' hi' xs
widen a b done = done
widen a b (more p q s h) = more (omega arith) (omega arith) s (widen a b h)

pub all_in : {lo hi : ℕ} {xs : List Item} → In lo hi xs → AllByRecursion (λ x. StructKey x.key) xs
all_in done = tt
all_in (more p q s h) = (s, all_in h)

off : (k j : Key) → (kind j ≡ kind k → ⊥) → same_key j k ≡ false
off k j h = ap (λ b. b && (eqb j.number k.number && bytes_eq j.part k.part)) (ne_eqb (kind j) (kind k) h)

pub none : (k : Key) {lo hi : ℕ} {xs : List Item} → In lo hi xs → (kind k < lo) ⊎ (hi ≤ kind k) → under k xs ≡ []
none k done o = refl
none k (more {x = x} {xs = xs} p q s h) o =
    let d : kind x.key ≡ kind k → ⊥ = omega arith in
    ap₂ (λ b l. when b x.place ++ l) (off k x.key d) (none k h o)

pub past : (k : Key) {lo hi : ℕ} {xs : List Item} (ys : List Item) → In lo hi xs → hi ≤ kind k → under k (xs ++ ys) ≡ under k ys
past k {xs = xs} ys h o = under_++ k xs ys ∙ ap (λ l. l ++ under k ys) (none k h (inr o))

pub short_of : (k : Key) {lo hi : ℕ} (xs : List Item) {ys : List Item} → In lo hi ys → kind k < lo → under k (xs ++ ys) ≡ under k xs
short_of k xs {ys} h o = under_++ k xs ys ∙ ap (λ l. under k xs ++ l) (none k h (inl o)) ∙ append-nil (under k xs)

in_when : {lo hi : ℕ} (b : Bool) (x : Item) → lo ≤ kind x.key → kind x.key < hi → StructKey x.key → In lo hi (when b x)
in_when true x p q s = more p q s done
in_when false x p q s = done

pub in_some : {lo hi : ℕ} (o : Option Ident) (g : Ident → List Item) → ((t : Ident) → In lo hi (g t)) → In lo hi (if_some o g)
in_some None g h = done
in_some (Some t) g h = h t

in_each : {X : Type 0} {lo hi : ℕ} (g : X → List Item) (xs : List X) → ((x : X) → In lo hi (g x)) → In lo hi (for_each g xs)
in_each g [] h = done
in_each g (x ∷ xs) h = in_++ (h x) (in_each g xs h)

pub in_groups : (gs : List Group) → In 9 10 (map group_item gs)
in_groups [] = done
in_groups (g ∷ gs) = more (lit≤ tt) (lit< tt) (group_key (called g.first)) (in_groups gs)

pub in_plain : (ps : List Property) → In 8 9 (map plain_property ps)
in_plain [] = done
in_plain (p ∷ ps) = more (lit≤ tt) (lit< tt) (property_key p.name.bytes) (in_plain ps)

in_omissions : (n : Node) (i : ℕ) (f : Form) → In 10 11 (omission_items n i f)
in_omissions n i [] = done
in_omissions n i (m ∷ ms) = in_++ (in_when (unmet n m) (item (omitted i m) omission) (lit≤ tt) (lit< tt) (omission_key i m)) (in_omissions n (suc i) ms)

module _ (f : Form) where
  pub in_asked : {lo hi : ℕ} (k : Key) (p : Place) → lo ≤ kind k → kind k < hi → StructKey k → In lo hi (asked f k p)
  in_asked k p a b s = in_when (has f (spelled k)) (item k p) a b s

  -- the parts of what an argument gives
  abbrev pub type_part : Argument → List Item
  type_part a = if_some a.entry.type (λ t. item (argument_type a.number) (identifier t) ∷ [])

  abbrev pub number_part : Argument → List Item
  number_part a = asked f (argument a.number) (value a.entry)

  pub in_type_part : (a : Argument) → In 2 3 (type_part a)
  in_type_part a =
      in_some a.entry.type (λ t. item (argument_type a.number) (identifier t) ∷ []) (λ t. more (lit≤ tt) (lit< tt) (argument_type_key a.number) done)

  pub in_number_part : (a : Argument) → In 3 4 (number_part a)
  in_number_part a = in_asked (argument a.number) (value a.entry) (lit≤ tt) (lit< tt) (argument_key a.number)

  in_argument : (a : Argument) → In 2 4 (argument_items f a)
  in_argument a = in_++ (widen (lit≤ tt) (lit≤ tt) (in_type_part a)) (widen (lit≤ tt) (lit≤ tt) (in_number_part a))

  -- the parts of what a property gives
  abbrev pub at_part : Property → List Item
  at_part p = asked f (at_property p.name.bytes) (value p.entry)

  abbrev pub at_type_part : Property → List Item
  at_type_part p = if_some p.entry.type (λ t. asked f (at_property_type p.name.bytes) (identifier t))

  pub in_at_part : (p : Property) → In 6 7 (at_part p)
  in_at_part p = in_asked (at_property p.name.bytes) (value p.entry) (lit≤ tt) (lit< tt) (at_property_key p.name.bytes)

  pub in_at_type_part : (p : Property) → In 7 8 (at_type_part p)
  in_at_type_part p =
      in_some p.entry.type (λ t. asked f (at_property_type p.name.bytes) (identifier t))
      (λ t. in_asked (at_property_type p.name.bytes) (identifier t) (lit≤ tt) (lit< tt) (at_property_type_key p.name.bytes))

  pub in_plain_part : (p : Property) → In 8 9 (plain_property p ∷ [])
  in_plain_part p = more (lit≤ tt) (lit< tt) (property_key p.name.bytes) done

  pub in_later_parts : (p : Property) → In 7 9 (at_type_part p ++ plain_property p ∷ [])
  in_later_parts p = in_++ (widen (lit≤ tt) (lit≤ tt) (in_at_type_part p)) (widen (lit≤ tt) (lit≤ tt) (in_plain_part p))

  in_property : (p : Property) → In 6 9 (property_items f p)
  in_property p = in_++ (widen (lit≤ tt) (lit≤ tt) (in_at_part p)) (widen (lit≤ tt) (lit≤ tt) (in_later_parts p))

  module _ (n : Node) where
    -- the parts of the list, and what follows each
    abbrev pub the_name : List Item
    the_name = asked f name (identifier (head_in n).name)

    abbrev pub the_type : List Item
    the_type = if_some (head_in n).type (λ t. asked f type (identifier t))

    abbrev pub the_arguments : List Item
    the_arguments = for_each (argument_items f) (arguments n)

    abbrev pub the_args : List Item
    the_args = asked f args (arg_list (arguments n))

    abbrev pub the_rest : List Item
    the_rest = asked f rest (arg_list (unasked f (arguments n)))

    abbrev pub the_properties : List Item
    the_properties = for_each (property_items f) (in_force (properties n))

    abbrev from_groups : List Item
    from_groups = document_list (children n) ++ omission_items n 0 f

    abbrev from_properties : List Item
    from_properties = the_properties ++ from_groups

    abbrev from_rest : List Item
    from_rest = the_rest ++ from_properties

    abbrev from_args : List Item
    from_args = the_args ++ from_rest

    abbrev from_arguments : List Item
    from_arguments = the_arguments ++ from_args

    in_name : In 0 1 the_name
    in_name = in_asked name (identifier (head_in n).name) (lit≤ tt) (lit< tt) name_key

    in_type : In 1 2 the_type
    in_type = in_some (head_in n).type (λ t. asked f type (identifier t)) (λ t. in_asked type (identifier t) (lit≤ tt) (lit< tt) type_key)

    in_arguments : In 2 4 the_arguments
    in_arguments = in_each (argument_items f) (arguments n) in_argument

    in_args : In 4 5 the_args
    in_args = in_asked args (arg_list (arguments n)) (lit≤ tt) (lit< tt) args_key

    in_rest : In 5 6 the_rest
    in_rest = in_asked rest (arg_list (unasked f (arguments n))) (lit≤ tt) (lit< tt) rest_key

    in_properties : In 6 9 the_properties
    in_properties = in_each (property_items f) (in_force (properties n)) in_property

    in_from_groups : In 9 11 from_groups
    in_from_groups = in_++ (widen (lit≤ tt) (lit≤ tt) (in_groups (groups (children n)))) (widen (lit≤ tt) (lit≤ tt) (in_omissions n 0 f))

    in_from_properties : In 6 11 from_properties
    in_from_properties = in_++ (widen (lit≤ tt) (lit≤ tt) in_properties) (widen (lit≤ tt) (lit≤ tt) in_from_groups)

    in_from_rest : In 5 11 from_rest
    in_from_rest = in_++ (widen (lit≤ tt) (lit≤ tt) in_rest) (widen (lit≤ tt) (lit≤ tt) in_from_properties)

    in_from_args : In 4 11 from_args
    in_from_args = in_++ (widen (lit≤ tt) (lit≤ tt) in_args) (widen (lit≤ tt) (lit≤ tt) in_from_rest)

    in_from_arguments : In 2 11 from_arguments
    in_from_arguments = in_++ (widen (lit≤ tt) (lit≤ tt) in_arguments) (widen (lit≤ tt) (lit≤ tt) in_from_args)

    in_from_type : In 1 11 (the_type ++ from_arguments)
    in_from_type = in_++ (widen (lit≤ tt) (lit≤ tt) in_type) (widen (lit≤ tt) (lit≤ tt) in_from_arguments)

    pub in_struct : In 0 11 (struct_list f n)
    in_struct = in_++ (widen (lit≤ tt) (lit≤ tt) in_name) (widen (lit≤ tt) (lit≤ tt) in_from_type)

    -- a key of some kind stands in one part
    pub at_name : (k : Key) → kind k < 1 → under k (struct_list f n) ≡ under k the_name
    at_name k h = short_of k the_name in_from_type h

    past_name : (k : Key) → 1 ≤ kind k → under k (struct_list f n) ≡ under k (the_type ++ from_arguments)
    past_name k h = past k (the_type ++ from_arguments) in_name h

    pub at_type : (k : Key) → kind k ≡ 1 → under k (struct_list f n) ≡ under k the_type
    at_type k h = past_name k (omega arith) ∙ short_of k the_type in_from_arguments (omega arith)

    past_titles : (k : Key) → 2 ≤ kind k → under k (struct_list f n) ≡ under k from_arguments
    past_titles k h = past_name k (omega arith) ∙ past k from_arguments in_type h

    pub at_arguments : (k : Key) → 2 ≤ kind k → kind k < 4 → under k (struct_list f n) ≡ under k the_arguments
    at_arguments k h g = past_titles k h ∙ short_of k the_arguments in_from_args g

    past_arguments : (k : Key) → 4 ≤ kind k → under k (struct_list f n) ≡ under k from_args
    past_arguments k h = past_titles k (omega arith) ∙ past k from_args in_arguments h

    pub at_args : (k : Key) → kind k ≡ 4 → under k (struct_list f n) ≡ under k the_args
    at_args k h = past_arguments k (omega arith) ∙ short_of k the_args in_from_rest (omega arith)

    past_args : (k : Key) → 5 ≤ kind k → under k (struct_list f n) ≡ under k from_rest
    past_args k h = past_arguments k (omega arith) ∙ past k from_rest in_args h

    pub at_rest : (k : Key) → kind k ≡ 5 → under k (struct_list f n) ≡ under k the_rest
    at_rest k h = past_args k (omega arith) ∙ short_of k the_rest in_from_properties (omega arith)

    past_rest : (k : Key) → 6 ≤ kind k → under k (struct_list f n) ≡ under k from_properties
    past_rest k h = past_args k (omega arith) ∙ past k from_properties in_rest h

    pub at_properties : (k : Key) → 6 ≤ kind k → kind k < 9 → under k (struct_list f n) ≡ under k the_properties
    at_properties k h g = past_rest k h ∙ short_of k the_properties in_from_groups g

    past_properties : (k : Key) → 9 ≤ kind k → under k (struct_list f n) ≡ under k from_groups
    past_properties k h = past_rest k (omega arith) ∙ past k from_groups in_properties h

    pub at_groups : (k : Key) → kind k ≡ 9 → under k (struct_list f n) ≡ under k (document_list (children n))
    at_groups k h = past_properties k (omega arith) ∙ short_of k (document_list (children n)) (in_omissions n 0 f) (omega arith)

    pub at_omissions : (k : Key) → 10 ≤ kind k → under k (struct_list f n) ≡ under k (omission_items n 0 f)
    at_omissions k h = past_properties k (omega arith) ∙ past k (omission_items n 0 f) (in_groups (groups (children n))) h
