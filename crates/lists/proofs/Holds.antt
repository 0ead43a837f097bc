-- Where what a node has stands. Assumes nothing.
use Rattle.std.proofs.Common.{◌≡◌, ℕ, Bool, true, false, cond, not, ◌&&◌, eqb, List, [], ◌∷◌, ◌++◌, map, sym, refl, ap, ◌∙◌, subst, append-nil, lit<, lit≤}
use Rattle.std.proofs.ByRecursion.{All-append, All-map}
use Rattle.std.specs.Str.{bytes_eq}
use Rattle.tree.specs.Document.{Node, Argument, Property, head_in, arguments, properties}
use Rattle.forms.specs.Forms.{Form, has}
use Rattle.forms.specs.Keys.{name, type, args, rest, argument, argument_type, at_property, at_property_type, property, group, omitted, spelled}
use Rattle.lists.specs.Each.{when, if_some, for_each, times, Subsequence}
use Rattle.lists.specs.Properties.{in_force}
use Rattle.lists.specs.Groups.{Group, called, children, those_called, groups}
use Rattle.lists.specs.Places.{Place, value, identifier, arg_list}
use Rattle.lists.specs.Lists.{together, group_item, plain_property, argument_items, unasked, property_items, document_list, map_list, struct_list}
use Rattle.lists.specs.Partition.{groups_called, one_group, properties_called}
use Rattle.lists.specs.Placement.{Placed, Mapped, Collected, Placement, under, arguments_in, rest_arguments, of_number, gathered, MapKey, own_property, own_group}
use Rattle.lists.proofs.Each.{each_map, each_kept, each_same, kept_subsequence, nothing_subsequence, of_each}
use Rattle.lists.proofs.Names.{and_true}
use Rattle.lists.proofs.Forced.{no_such, the_one as the_last}
use Rattle.lists.proofs.Parted.{parted}
use Rattle.lists.proofs.Parts.{under_each, under_when, under_some, past, short_of, all_in, in_groups, in_plain, in_struct, in_type_part, in_number_part, in_at_part, in_at_type_part, in_plain_part, in_later_parts, type_part, number_part, at_part, at_type_part, at_name, at_type, at_arguments, at_args, at_rest, at_properties, at_groups, at_omissions}
use Rattle.lists.proofs.Numbered.{the_one, none_such, unasked_numbers, omits, omits_none}
use Rattle.lists.proofs.Stand.{stand_joined, stand_in_map, stand_in_struct}

-- what an element gives under a key, where it is the only one that gives something under it
alone : {X : Type 0} (g : X → List Place) {xs : List X} {x : X} → xs ≡ x ∷ [] → for_each g xs ≡ g x
alone g {x = x} e = ap (for_each g) e ∙ append-nil (g x)

-- groups under their names
by_name : (m : List ℕ) (cs : List Node) → under (group m) (document_list cs) ≡ gathered (those_called m cs)
by_name m cs = go (groups cs) ∙ ap (map place) ((parted cs).each_name m) ∙ one (those_called m cs)
  where
    place : Group → Place
    place g = together g.first g.others

    step : (b : Bool) (g : Group) (l : List Group) → when b (place g) ++ map place l ≡ map place (cond b (g ∷ l) l)
    step true g l = refl
    step false g l = refl

    go : (gs : List Group) → under (group m) (map group_item gs) ≡ map place (groups_called m gs)
    go [] = refl
    go (g ∷ gs) = ap (λ l. when (bytes_eq (called g.first) m) (place g) ++ l) (go gs) ∙ step (bytes_eq (called g.first) m) g (groups_called m gs)

    one : (l : List Node) → map place (one_group l) ≡ gathered l
    one [] = refl
    one (c ∷ ds) = refl

module _ (f : Form) where
  -- an argument
  abbrev own_value : Argument → List Place
  own_value a = when (has f (spelled (argument a.number))) (value a.entry)

  abbrev own_type : Argument → List Place
  own_type a = if_some a.entry.type (λ t. identifier t ∷ [])

  number_here : (j : ℕ) (a : Argument) → under (argument j) (argument_items f a) ≡ cond (eqb a.number j) (own_value a) []
  number_here j a =
      past (argument j) (number_part f a) (in_type_part f a) (lit≤ tt)
      ∙ under_when (argument j) (argument a.number) (eqb a.number j) (and_true (eqb a.number j)) (has f (spelled (argument a.number))) (value a.entry)

  type_here : (j : ℕ) (a : Argument) → under (argument_type j) (argument_items f a) ≡ cond (eqb a.number j) (own_type a) []
  type_here j a =
      short_of (argument_type j) (type_part f a) (in_number_part f a) (lit< tt)
      ∙ under_some (argument_type j) (argument_type a.number) (eqb a.number j) (and_true (eqb a.number j)) true a.entry.type

  -- a property
  abbrev at_value : Property → List Place
  at_value p = when (has f (spelled (at_property p.name.bytes))) (value p.entry)

  abbrev at_own_type : Property → List Place
  at_own_type p = if_some p.entry.type (λ t. when (has f (spelled (at_property_type p.name.bytes))) (identifier t))

  plain_here : (m : List ℕ) (p : Property) → under (property m) (property_items f p) ≡ cond (bytes_eq p.name.bytes m) (value p.entry ∷ []) []
  plain_here m p =
      past (property m) (at_type_part f p ++ plain_property p ∷ []) (in_at_part f p) (lit≤ tt)
      ∙ past (property m) (plain_property p ∷ []) (in_at_type_part f p) (lit≤ tt)
      ∙ under_when (property m) (property p.name.bytes) (bytes_eq p.name.bytes m) refl true (value p.entry)

  at_here : (m : List ℕ) (p : Property) → under (at_property m) (property_items f p) ≡ cond (bytes_eq p.name.bytes m) (at_value p) []
  at_here m p =
      short_of (at_property m) (at_part f p) (in_later_parts f p) (lit< tt)
      ∙ under_when (at_property m) (at_property p.name.bytes) (bytes_eq p.name.bytes m) refl (has f (spelled (at_property p.name.bytes))) (value p.entry)

  at_type_here : (m : List ℕ) (p : Property) → under (at_property_type m) (property_items f p) ≡ cond (bytes_eq p.name.bytes m) (at_own_type p) []
  at_type_here m p =
      past (at_property_type m) (at_type_part f p ++ plain_property p ∷ []) (in_at_part f p) (lit≤ tt)
      ∙ short_of (at_property_type m) (at_type_part f p) (in_plain_part f p) (lit< tt)
      ∙ under_some (at_property_type m) (at_property_type p.name.bytes) (bytes_eq p.name.bytes m) refl (has f (spelled (at_property_type p.name.bytes))) p.entry.type

  module _ (n : Node) where
    under_number : (i : ℕ) → under (argument i) (struct_list f n) ≡ for_each own_value (of_number i (arguments n))
    under_number i = at_arguments f n (argument i) (lit≤ tt) (lit< tt) ∙ under_each (argument i) (argument_items f) (λ a. eqb a.number i) own_value (number_here i) (arguments n)

    under_type : (i : ℕ) → under (argument_type i) (struct_list f n) ≡ for_each own_type (of_number i (arguments n))
    under_type i = at_arguments f n (argument_type i) (lit≤ tt) (lit< tt) ∙ under_each (argument_type i) (argument_items f) (λ a. eqb a.number i) own_type (type_here i) (arguments n)

    under_plain : (m : List ℕ) → under (property m) (struct_list f n) ≡ for_each (λ p. value p.entry ∷ []) (properties_called m (in_force (properties n)))
    under_plain m =
        at_properties f n (property m) (lit≤ tt) (lit< tt)
        ∙ under_each (property m) (property_items f) (λ p. bytes_eq p.name.bytes m) (λ p. value p.entry ∷ []) (plain_here m) (in_force (properties n))

    under_at : (m : List ℕ) → under (at_property m) (struct_list f n) ≡ for_each at_value (properties_called m (in_force (properties n)))
    under_at m =
        at_properties f n (at_property m) (lit≤ tt) (lit< tt)
        ∙ under_each (at_property m) (property_items f) (λ p. bytes_eq p.name.bytes m) at_value (at_here m) (in_force (properties n))

    under_at_type : (m : List ℕ) → under (at_property_type m) (struct_list f n) ≡ for_each at_own_type (properties_called m (in_force (properties n)))
    under_at_type m =
        at_properties f n (at_property_type m) (lit≤ tt) (lit< tt)
        ∙ under_each (at_property_type m) (property_items f) (λ p. bytes_eq p.name.bytes m) at_own_type (at_type_here m) (in_force (properties n))

    -- "#rest"
    under_rest : under rest (struct_list f n) ≡ when (has f (spelled rest)) (arg_list (unasked f (arguments n)))
    under_rest = at_rest f n rest refl ∙ under_when rest rest true refl (has f (spelled rest)) (arg_list (unasked f (arguments n)))

    left : rest_arguments (struct_list f n) ≡ cond (has f (spelled rest)) (unasked f (arguments n)) []
    left = ap (for_each arguments_in) under_rest ∙ go (has f (spelled rest))
      where
        go : (b : Bool) → for_each arguments_in (when b (arg_list (unasked f (arguments n)))) ≡ cond b (unasked f (arguments n)) []
        go true = append-nil (unasked f (arguments n))
        go false = refl

    left_numbered : (i : ℕ) → of_number i (rest_arguments (struct_list f n)) ≡ cond (has f (spelled rest) && not (has f (spelled (argument i)))) (of_number i (arguments n)) []
    left_numbered i = ap (of_number i) left ∙ go (has f (spelled rest)) (has f (spelled (argument i))) (unasked_numbers f i (arguments n))
      where
        go : (b t : Bool) → of_number i (unasked f (arguments n)) ≡ cond t [] (of_number i (arguments n)) → of_number i (cond b (unasked f (arguments n)) []) ≡ cond (b && not t) (of_number i (arguments n)) []
        go true true h = h
        go true false h = h
        go false t h = refl

    one_list : under rest (struct_list f n) ≡ when (has f (spelled rest)) (arg_list (rest_arguments (struct_list f n)))
    one_list = under_rest ∙ go (has f (spelled rest)) ∙ ap (λ l. when (has f (spelled rest)) (arg_list l)) (sym left)
      where
        go : (b : Bool) → when b (arg_list (unasked f (arguments n))) ≡ when b (arg_list (cond b (unasked f (arguments n)) []))
        go true = refl
        go false = refl

    left_in_order : Subsequence (rest_arguments (struct_list f n)) (arguments n)
    left_in_order = subst (λ (l : List Argument). Subsequence l (arguments n)) (sym left) (go (has f (spelled rest)))
      where
        go : (b : Bool) → Subsequence (cond b (unasked f (arguments n)) []) (arguments n)
        go true = kept_subsequence (λ a. not (has f (spelled (argument a.number)))) (arguments n)
        go false = nothing_subsequence (arguments n)

    cond_when : {X : Type 0} (b : Bool) (x : X) → cond b (x ∷ []) [] ≡ when b x
    cond_when true x = refl
    cond_when false x = refl

    cond_none : {X : Type 0} (b : Bool) → cond {A = List X} b [] [] ≡ []
    cond_none true = refl
    cond_none false = refl

    pub placed : Placed f n (struct_list f n)
    placed =
        record {
          own_name = at_name f n name (lit< tt) ∙ under_when name name true refl (has f (spelled name)) (identifier (head_in n).name);
          own_type = at_type f n type refl ∙ under_some type type true refl (has f (spelled type)) (head_in n).type;
          by_number = λ i a h.
              let found = the_one n i a h in
              under_number i ∙ alone own_value found.0 ∙ ap (λ j. when (has f (spelled (argument j))) (value a.entry)) found.1;
          by_type = λ i a h. under_type i ∙ alone own_type (the_one n i a h).0;
          in_rest = λ i a h.
              let b = has f (spelled rest) && not (has f (spelled (argument i))) in
              left_numbered i ∙ ap (λ l. cond b l []) (the_one n i a h).0 ∙ cond_when b a;
          no_number = λ i h.
              let b = has f (spelled rest) && not (has f (spelled (argument i))) in (
                under_number i ∙ ap (for_each own_value) (none_such n i h),
                under_type i ∙ ap (for_each own_type) (none_such n i h),
                left_numbered i ∙ ap (λ l. cond b l []) (none_such n i h) ∙ cond_none b,
              );
          one_rest = one_list;
          rest_in_order = left_in_order;
          all_arguments = at_args f n args refl ∙ under_when args args true refl (has f (spelled args)) (arg_list (arguments n));
          by_property = λ p h. under_plain p.name.bytes ∙ alone (λ q. value q.entry ∷ []) (the_last (properties n) p h);
          by_at_property = λ p h. under_at p.name.bytes ∙ alone at_value (the_last (properties n) p h);
          by_property_type = λ p h. under_at_type p.name.bytes ∙ alone at_own_type (the_last (properties n) p h);
          no_property = λ m h.
              let gone = no_such m (properties n) h in
              (under_plain m ∙ ap (for_each (λ q. value q.entry ∷ [])) gone, under_at m ∙ ap (for_each at_value) gone, under_at_type m ∙ ap (for_each at_own_type) gone);
          by_name = λ m. at_groups f n (group m) refl ∙ by_name m (children n);
          each_child = λ test. ap (times test) (stand_in_struct f n) ∙ (parted (children n)).each_node test;
          omissions = λ i m h. at_omissions f n (omitted i m) (lit≤ tt) ∙ omits n m f i h;
          no_omission = λ i m h. at_omissions f n (omitted i m) (lit≤ tt) ∙ omits_none n m f i h;
          only = all_in (in_struct f n);
        }

module _ (n : Node) where
  plain_in_map : (m : List ℕ) (ps : List Property) → under (property m) (map plain_property ps) ≡ for_each (λ p. value p.entry ∷ []) (properties_called m ps)
  plain_in_map m ps =
      each_map _ plain_property ps
      ∙ each_same _ (λ p. cond (bytes_eq p.name.bytes m) (value p.entry ∷ []) []) (λ p. when_cond (bytes_eq p.name.bytes m) (value p.entry)) ps
      ∙ each_kept (λ p. value p.entry ∷ []) (λ p. bytes_eq p.name.bytes m) ps
    where
      when_cond : (b : Bool) (x : Place) → when b x ≡ cond b (x ∷ []) []
      when_cond true x = refl
      when_cond false x = refl

  under_own : (m : List ℕ) → under (property m) (map_list n) ≡ for_each (λ p. value p.entry ∷ []) (properties_called m (in_force (properties n)))
  under_own m = short_of (property m) (map plain_property (in_force (properties n))) (in_groups (groups (children n))) (lit< tt) ∙ plain_in_map m (in_force (properties n))

  pub mapped : Mapped n (map_list n)
  mapped =
      record {
        by_property = λ p h. under_own p.name.bytes ∙ alone (λ q. value q.entry ∷ []) (the_last (properties n) p h);
        no_property = λ m h. under_own m ∙ ap (for_each (λ q. value q.entry ∷ [])) (no_such m (properties n) h);
        by_name = λ m. past (group m) (document_list (children n)) (in_plain (in_force (properties n))) (lit≤ tt) ∙ by_name m (children n);
        each_child = λ test. ap (times test) (stand_in_map n) ∙ (parted (children n)).each_node test;
        only =
            All-append (λ x. MapKey x.key) (map plain_property (in_force (properties n))) (document_list (children n))
            (All-map (λ x. MapKey x.key) plain_property (in_force (properties n)) (of_each (λ p. MapKey (property p.name.bytes)) (λ p. own_property p.name.bytes) (in_force (properties n))))
            (All-map (λ x. MapKey x.key) group_item (groups (children n)) (of_each (λ g. MapKey (group (called g.first))) (λ g. own_group (called g.first)) (groups (children n))));
      }

pub collected : (ns : List Node) → Collected ns (document_list ns)
collected ns =
    record {
      by_name = λ m. by_name m ns;
      each_node = λ test. ap (times test) (stand_joined (groups ns)) ∙ (parted ns).each_node test;
      only = All-map (λ x. (m : List ℕ) × (x.key ≡ group m)) group_item (groups ns) (of_each (λ g. (m : List ℕ) × (group (called g.first) ≡ group m)) (λ g. (called g.first, refl)) (groups ns));
    }

pub placement : Placement
placement = record { structs = placed; maps = mapped; documents = collected }
