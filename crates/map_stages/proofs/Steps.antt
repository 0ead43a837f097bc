-- Each stage of a node's map gives the next part of its list. Assumes nothing.
use Rattle.std.proofs.Common.{◌≡◌, ℕ, suc, ◌+◌, ◌^◌, ◌<◌, ◌≤◌, true, false, cond, ltb, List, [], ◌∷◌, ◌++◌, map, length, drop, Some, None, filter, Option, sym, refl, ap, ◌∙◌, subst, append_assoc, add-one, arith}
use Rattle.std.proofs.lemmas.Bool.{lt-ltb, le-ltb}
use Rattle.tree.specs.declared.handle.NodeHandle.{NodeHandle}
use Rattle.tree.specs.declared.handle.EntryHandle.{EntryHandle}
use Rattle.tree.specs.Document.{Ident, Entry, Node, Nodes, Argument, head_in, arguments, arguments_from, argument_then, number_after, properties_in, property_then}
use Rattle.tree.specs.Going.{Spot, EntrySpot, found, found_entry, first, first_of}
use Rattle.tree.specs.Limits.{Lawful}
use Rattle.spots.specs.Rows.{row, row_of, earlier, entry_row, entry_row_of, inner, inner_of, entries}
use Rattle.spots.specs.Rows as rows
use Rattle.spots.proofs.Rows.{row_next, earlier_next, row_inner, earlier_inner, entry_row_next, entry_row_first}
use Rattle.forms.specs.Forms.{Form, nth, has}
use Rattle.forms.specs.Keys.{name, type, argument_type, argument, args, rest, at_property, at_property_type, property, group, omitted, spelled}
use Rattle.forms.specs.Keys as keys
use Rattle.forms.proofs.Members.{nth_some, nth_none, nth_below}
use Rattle.lists.specs.Each.{when, if_some, for_each}
use Rattle.lists.specs.Properties.{is_property, in_force}
use Rattle.lists.specs.Groups.{called, children, those_called, groups_after}
use Rattle.lists.specs.Places as places
use Rattle.lists.specs.Places.{value, identifier, arg_list, omission}
use Rattle.lists.specs.Lists.{item, asked, group_item, argument_items, property_items, plain_property, unasked, unmet, omission_items}
use Rattle.lists.specs.Stages.{from_position, from_args, argument_itself, property_type, property_plain, property_of}
use Rattle.lists.proofs.Stepping.{next_property}
use Rattle.places.specs.declared.item.Item.{Item}
use Rattle.places.specs.Meant.{item_meant}
use Rattle.map_stages.specs.declared.access.Stage.{Stage}
use Rattle.map_stages.specs.declared.access.Stage.TheVariants as stage
use Rattle.map_stages.specs.declared.access.Turn.TheVariants.{End, Pass, Give}
use Rattle.map_stages.specs.Coming.{self_of, after_of, numbered, form_in, from_nodes, from_properties, from_arguments, at_stage, of_node, staged}
use Rattle.map_stages.specs.Turning.{left, Moves}

abbrev fitting : List Argument → List Argument
fitting as' = filter (λ (a : Argument). ltb a.number (2 ^ 32)) as'

none_then : (o : Option Ident) (i : ℕ) (e : Entry) (es : List Entry) → 2 ^ 32 ≤ i → fitting (arguments_from (suc i) es) ≡ [] → fitting (arguments_from i es) ≡ [] → fitting (argument_then o i e (arguments_from (number_after o i) es)) ≡ []
none_then None i e es h more same = rw (le-ltb i (2 ^ 32) h) more
none_then (Some m) i e es h more same = same

-- 32 bits hold no number from 2^32 on
pub numbered_none : (i : ℕ) (es : List Entry) → 2 ^ 32 ≤ i → numbered i es ≡ []
unfolding numbered
numbered_none i [] h = refl
numbered_none i (e ∷ es) h = none_then e.name i e es h (numbered_none (suc i) es (omega arith)) (numbered_none i es h)

-- an argument that is not named takes the number
pub numbered_one : (i : ℕ) (e : Entry) (es : List Entry) → e.name ≡ None → i < 2 ^ 32 → numbered i (e ∷ es) ≡ record { number = i; entry = e } ∷ numbered (suc i) es
unfolding numbered
numbered_one i e es is small = rw (is, lt-ltb i (2 ^ 32) small)

pub numbered_other : (i : ℕ) (e : Entry) (es : List Entry) (m : Ident) → e.name ≡ Some m → numbered i (e ∷ es) ≡ numbered i es
unfolding numbered
numbered_other i e es m is = rw is

-- the groups behind the node with a handle
pub groups_behind : (d : Nodes) (law : Lawful d) (k : NodeHandle) (g : Spot) → found d k ≡ Some g → groups_after (earlier d (first g.after)) (row d (first g.after)) ≡ groups_after (g.before ++ g.self ∷ []) g.after
groups_behind d law k g there = go g.after refl
  where
    go : (ns : List Node) → g.after ≡ ns → groups_after (earlier d (first g.after)) (row d (first g.after)) ≡ groups_after (g.before ++ g.self ∷ []) g.after
    go [] none = rw none
    go (c ∷ cs) some =
        let e : earlier d (first g.after) ≡ g.before ++ g.self ∷ [] = ap (λ l. earlier d (first l)) some ∙ earlier_next d law k g c cs there some in
        let r = row_next d law k g there in
        (λ j. groups_after (e j) (r j))

module _ (d : Nodes) (law : Lawful d) (fs : List Form) (h : NodeHandle) (form : Option ℕ) (s : Spot) (is : found d h ≡ Some s) where
  abbrev f : Form
  f = form_in fs form

  abbrev n : Node
  n = s.self

  pub at_here : (t : Stage) → staged d fs h form t ≡ at_stage f n d t
  at_here t = ap (of_node d f t) is

  -- xs, and then the list at the stage v, is the list at the stage u; and v is nearer to the end
  pub record Step (u v : Stage) (xs : List places.Item) : Type 0 where
    pub list : at_stage f n d u ≡ xs ++ at_stage f n d v
    pub falls : left d fs h form v < left d fs h form u

  pub passed : (u v : Stage) → Step u v [] → Moves d fs h form u (Pass v)
  passed u v k = record { turned = at_here u ∙ k.list ∙ sym (at_here v); falls = k.falls }

  pub given : (u v : Stage) (x : Item) (y : places.Item) → Step u v (y ∷ []) → item_meant d fs x ≡ y → Moves d fs h form u (Give x v)
  given u v x y k e = record { turned = at_here u ∙ k.list ∙ (λ i. sym e i ∷ sym (at_here v) i); falls = k.falls }

  -- what the form asks for, or not
  pub asked_given : (u v : Stage) (x : Item) (k : keys.Key) (p : places.Place) → Step u v (asked f k p) → true ≡ has f (spelled k) → item_meant d fs x ≡ item k p → Moves d fs h form u (Give x v)
  asked_given u v x k p st b e = given u v x (item k p) (subst (Step u v) (ap (λ c. when c (item k p)) (sym b)) st) e

  pub asked_passed : (u v : Stage) (k : keys.Key) (p : places.Place) → Step u v (asked f k p) → false ≡ has f (spelled k) → Moves d fs h form u (Pass v)
  asked_passed u v k p st b = passed u v (subst (Step u v) (ap (λ c. when c (item k p)) (sym b)) st)

  entries_is : entries d h ≡ (head_in n).entries
  entries_is = ap rows.entries_of is

  inner_is : inner d h ≡ children n
  inner_is = ap inner_of is

  first_row : entry_row d (first_of (head_in n).entries) ≡ (head_in n).entries
  first_row = entry_row_first d law h s is

  pub step_name : Step stage.Name stage.«Type» (asked f name (identifier (head_in n).name))
  step_name = record { list = refl; falls = omega arith }

  type_falls : left d fs h form (stage.ArgumentType (first_of (head_in n).entries) 0) < left d fs h form stage.«Type»
  type_falls = let a = ap length first_row in let b = ap length entries_is in omega arith

  pub step_type : (t : Ident) → (head_in n).type ≡ Some t → Step stage.«Type» (stage.ArgumentType (first_of (head_in n).entries) 0) (asked f type (identifier t))
  step_type t e = record { list = (λ i. if_some (e i) (λ z. asked f type (identifier z)) ++ from_arguments f n 0 (sym first_row i)); falls = type_falls }

  pub step_no_type : (head_in n).type ≡ None → Step stage.«Type» (stage.ArgumentType (first_of (head_in n).entries) 0) []
  step_no_type e = record { list = (λ i. if_some (e i) (λ z. asked f type (identifier z)) ++ from_arguments f n 0 (sym first_row i)); falls = type_falls }

  pub step_arguments_end : (at : Option EntryHandle) (i : ℕ) → entry_row d at ≡ [] → Step (stage.ArgumentType at i) stage.Args []
  unfolding numbered
  step_arguments_end at i e = record { list = ap (from_arguments f n i) e; falls = omega arith }

  module _ (e : EntryHandle) (x : EntrySpot) (there : found_entry d e ≡ Some x) where
    row_here : entry_row d (Some e) ≡ x.self ∷ x.after
    row_here = ap entry_row_of there

    self_here : self_of (found_entry d e) ≡ Some x.self
    self_here = ap self_of there

    after_here : after_of (found_entry d e) ≡ x.after
    after_here = ap after_of there

    next_row : entry_row d (first_of x.after) ≡ x.after
    next_row = entry_row_next d law e x there

    pub step_pass_property : (i : ℕ) (m : Ident) → x.self.name ≡ Some m → Step (stage.ArgumentType (Some e) i) (stage.ArgumentType (first_of x.after) i) []
    step_pass_property i m named =
        let a = ap length row_here in
        let b = ap length next_row in
        record { list = ap (from_arguments f n i) row_here ∙ ap (λ l. for_each (argument_items f) l ++ from_args f n) (numbered_other i x.self x.after m named) ∙ ap (from_arguments f n i) (sym next_row); falls = omega arith }

    argument_falls : (i : ℕ) → left d fs h form (stage.Argument e i) < left d fs h form (stage.ArgumentType (Some e) i)
    argument_falls i = let a = ap length row_here in let b = ap length after_here in omega arith

    argument_list : (i : ℕ) → x.self.name ≡ None → i < 2 ^ 32 → at_stage f n d (stage.ArgumentType (Some e) i) ≡ if_some x.self.type (λ t. item (argument_type i) (identifier t) ∷ []) ++ at_stage f n d (stage.Argument e i)
    argument_list i named small =
        ap (from_arguments f n i) row_here
        ∙ ap (λ l. for_each (argument_items f) l ++ from_args f n) (numbered_one i x.self x.after named small)
        ∙ append_assoc (argument_items f (record { number = i; entry = x.self })) (for_each (argument_items f) (numbered (suc i) x.after)) (from_args f n)
        ∙ append_assoc (if_some x.self.type (λ t. item (argument_type i) (identifier t) ∷ [])) (asked f (argument i) (value x.self)) (from_arguments f n (suc i) x.after)
        ∙ (λ j. if_some x.self.type (λ t. item (argument_type i) (identifier t) ∷ []) ++ (argument_itself f n i (sym self_here j) ++ from_arguments f n (suc i) (sym after_here j)))

    pub step_argument_type : (i : ℕ) (t : Ident) → x.self.name ≡ None → x.self.type ≡ Some t → i < 2 ^ 32 → Step (stage.ArgumentType (Some e) i) (stage.Argument e i) (item (argument_type i) (identifier t) ∷ [])
    step_argument_type i t named typed small = record { list = argument_list i named small ∙ ap (λ o. if_some o (λ z. item (argument_type i) (identifier z) ∷ []) ++ at_stage f n d (stage.Argument e i)) typed; falls = argument_falls i }

    pub step_argument_no_type : (i : ℕ) → x.self.name ≡ None → x.self.type ≡ None → i < 2 ^ 32 → Step (stage.ArgumentType (Some e) i) (stage.Argument e i) []
    step_argument_no_type i named typed small = record { list = argument_list i named small ∙ ap (λ o. if_some o (λ z. item (argument_type i) (identifier z) ∷ []) ++ at_stage f n d (stage.Argument e i)) typed; falls = argument_falls i }

    itself_list : (i : ℕ) → at_stage f n d (stage.Argument e i) ≡ asked f (argument i) (value x.self) ++ from_arguments f n (suc i) x.after
    itself_list i = (λ j. argument_itself f n i (self_here j) ++ from_arguments f n (suc i) (after_here j))

    pub step_argument : (i : ℕ) → Step (stage.Argument e i) (stage.ArgumentType (first_of x.after) (i + 1)) (asked f (argument i) (value x.self))
    step_argument i =
        let a = ap length after_here in
        let b = ap length next_row in
        record { list = itself_list i ∙ (λ j. asked f (argument i) (value x.self) ++ from_arguments f n (sym (add-one i) j) (sym next_row j)); falls = omega arith }

    pub step_argument_last : (i : ℕ) → 2 ^ 32 ≤ i + 1 → Step (stage.Argument e i) stage.Args (asked f (argument i) (value x.self))
    step_argument_last i big = record {
      list = itself_list i ∙ ap (λ l. asked f (argument i) (value x.self) ++ (for_each (argument_items f) l ++ from_args f n)) (numbered_none (suc i) x.after (omega arith));
      falls = omega arith;
    }

    -- properties
    pub step_pass_argument : x.self.name ≡ None → Step (stage.AtProperty (Some e)) (stage.AtProperty (first_of x.after)) []
    step_pass_argument named =
        let a = ap length row_here in
        let b = ap length next_row in
        record {
          list = ap (from_properties f n) row_here ∙ ap (λ o. for_each (property_items f) (in_force (property_then o x.self (properties_in x.after))) ++ from_nodes f n [] (children n)) named ∙ ap (from_properties f n) (sym next_row);
          falls = omega arith;
        }

    module _ (m : Ident) (named : x.self.name ≡ Some m) where
      property_list : at_stage f n d (stage.AtProperty (Some e)) ≡ cond (is_property (properties_in x.after) m.bytes) [] (property_items f (property_of x.self m)) ++ from_properties f n x.after
      property_list =
          ap (from_properties f n) row_here
          ∙ ap (λ o. for_each (property_items f) (in_force (property_then o x.self (properties_in x.after))) ++ from_nodes f n [] (children n)) named
          ∙ ap (λ l. l ++ from_nodes f n [] (children n)) (next_property (property_items f) (property_of x.self m) (properties_in x.after))
          ∙ append_assoc (cond (is_property (properties_in x.after) m.bytes) [] (property_items f (property_of x.self m))) (for_each (property_items f) (in_force (properties_in x.after))) (from_nodes f n [] (children n))

      pub step_overridden : true ≡ is_property (properties_in x.after) m.bytes → Step (stage.AtProperty (Some e)) (stage.AtProperty (first_of x.after)) []
      step_overridden over =
          let a = ap length row_here in
          let b = ap length next_row in
          record { list = property_list ∙ (λ j. cond (sym over j) [] (property_items f (property_of x.self m)) ++ from_properties f n (sym next_row j)); falls = omega arith }

      abbrev type_part : List places.Item
      type_part = if_some x.self.type (λ t. asked f (at_property_type m.bytes) (identifier t))

      abbrev plain_part : List places.Item
      plain_part = plain_property (property_of x.self m) ∷ []

      type_list : at_stage f n d (stage.PropertyType e) ≡ type_part ++ (plain_part ++ from_properties f n x.after)
      type_list =
          (λ j. property_type f n (self_here j) ++ (property_plain f n (self_here j) ++ from_properties f n (after_here j)))
          ∙ ap (λ o. if_some o (λ z. if_some x.self.type (λ t. asked f (at_property_type z.bytes) (identifier t))) ++ (if_some o (λ z. plain_property (property_of x.self z) ∷ []) ++ from_properties f n x.after)) named

      plain_list : at_stage f n d (stage.Property e) ≡ plain_part ++ from_properties f n x.after
      plain_list =
          (λ j. property_plain f n (self_here j) ++ from_properties f n (after_here j))
          ∙ ap (λ o. if_some o (λ z. plain_property (property_of x.self z) ∷ []) ++ from_properties f n x.after) named

      pub step_at_property : false ≡ is_property (properties_in x.after) m.bytes → Step (stage.AtProperty (Some e)) (stage.PropertyType e) (asked f (at_property m.bytes) (value x.self))
      step_at_property over =
          let a = ap length row_here in
          let b = ap length after_here in
          record {
            list =
                property_list
                ∙ ap (λ c. cond c [] (property_items f (property_of x.self m)) ++ from_properties f n x.after) (sym over)
                ∙ append_assoc (asked f (at_property m.bytes) (value x.self)) (type_part ++ plain_part) (from_properties f n x.after)
                ∙ ap (λ l. asked f (at_property m.bytes) (value x.self) ++ l) (append_assoc type_part plain_part (from_properties f n x.after) ∙ sym type_list);
            falls = omega arith;
          }

      pub step_property_type : (t : Ident) → x.self.type ≡ Some t → Step (stage.PropertyType e) (stage.Property e) (asked f (at_property_type m.bytes) (identifier t))
      step_property_type t typed = record {
        list = type_list ∙ (λ j. if_some (typed j) (λ z. asked f (at_property_type m.bytes) (identifier z)) ++ sym plain_list j);
        falls = omega arith;
      }

      pub step_property_no_type : x.self.type ≡ None → Step (stage.PropertyType e) (stage.Property e) []
      step_property_no_type typed = record {
        list = type_list ∙ (λ j. if_some (typed j) (λ z. asked f (at_property_type m.bytes) (identifier z)) ++ sym plain_list j);
        falls = omega arith;
      }

      pub step_property : Step (stage.Property e) (stage.AtProperty (first_of x.after)) (plain_property (property_of x.self m) ∷ [])
      step_property =
          let a = ap length after_here in
          let b = ap length next_row in
          record { list = plain_list ∙ ap (λ l. plain_part ++ from_properties f n l) (sym next_row); falls = omega arith }

    -- an entry without a name gives nothing as a property
    module _ (named : x.self.name ≡ None) where
      pub step_no_property_type : Step (stage.PropertyType e) (stage.Property e) []
      step_no_property_type = record {
        list =
            ap (λ o. property_type f n o ++ (property_plain f n (self_of (found_entry d e)) ++ from_properties f n (after_of (found_entry d e)))) self_here
            ∙ ap (λ o. if_some o (λ z. if_some x.self.type (λ t. asked f (at_property_type z.bytes) (identifier t))) ++ (property_plain f n (self_of (found_entry d e)) ++ from_properties f n (after_of (found_entry d e)))) named;
        falls = omega arith;
      }

      pub step_no_property : Step (stage.Property e) (stage.AtProperty (first_of x.after)) []
      step_no_property =
          let a = ap length after_here in
          let b = ap length next_row in
          record {
            list =
                (λ j. property_plain f n (self_here j) ++ from_properties f n (after_here j))
                ∙ ap (λ o. if_some o (λ z. plain_property (property_of x.self z) ∷ []) ++ from_properties f n x.after) named
                ∙ ap (from_properties f n) (sym next_row);
            falls = omega arith;
          }

  -- a handle that is no entry's gives nothing
  module _ (e : EntryHandle) (gone : found_entry d e ≡ None) where
    pub step_no_argument : (i : ℕ) → Step (stage.Argument e i) stage.Args []
    unfolding numbered
    step_no_argument i = record { list = (λ j. argument_itself f n i (self_of (gone j)) ++ from_arguments f n (suc i) (after_of (gone j))); falls = omega arith }

    pub step_lost_type : Step (stage.PropertyType e) (stage.Property e) []
    step_lost_type = record {
      list = ap (λ o. property_type f n (self_of o) ++ (property_plain f n (self_of (found_entry d e)) ++ from_properties f n (after_of (found_entry d e)))) gone;
      falls = omega arith;
    }

    pub step_lost_property : Step (stage.Property e) (stage.AtProperty None) []
    step_lost_property = record { list = (λ j. property_plain f n (self_of (gone j)) ++ from_properties f n (after_of (gone j))); falls = omega arith }

  pub step_args : Step stage.Args stage.Rest (asked f args (arg_list (arguments n)))
  step_args = record { list = refl; falls = omega arith }

  pub step_rest : Step stage.Rest (stage.AtProperty (first_of (head_in n).entries)) (asked f rest (arg_list (unasked f (arguments n))))
  step_rest =
      let a = ap length first_row in
      let b = ap length entries_is in
      record { list = ap (λ l. asked f rest (arg_list (unasked f (arguments n))) ++ from_properties f n l) (sym first_row); falls = omega arith }

  pub step_properties_end : (at : Option EntryHandle) → entry_row d at ≡ [] → Step (stage.AtProperty at) (stage.Groups (first (children n))) []
  step_properties_end at e =
      let r = row_inner d law h s is in
      let b = earlier_inner d law h s is in
      let c = ap (λ l. length (groups_after [] l)) inner_is in
      let g : length (groups_after (earlier d (first (children n))) (row d (first (children n)))) ≡ length (groups_after [] (children n)) = (λ j. length (groups_after (b j) (r j))) in
      record { list = ap (from_properties f n) e ∙ (λ j. from_nodes f n (sym b j) (sym r j)); falls = omega arith }

  -- groups
  pub step_groups_end : (at : Option NodeHandle) → groups_after (earlier d at) (row d at) ≡ [] → Step (stage.Groups at) (stage.Omissions 0) []
  step_groups_end at e = let l = ap length e in record { list = ap (λ g. map group_item g ++ from_position f n 0) e; falls = omega arith }

  pub step_group : (at : Option NodeHandle) (k : NodeHandle) (g : Spot) → found d k ≡ Some g
      → groups_after (earlier d at) (row d at) ≡ record { first = g.self; others = those_called (called g.self) g.after } ∷ groups_after (g.before ++ g.self ∷ []) g.after
      → Step (stage.Groups at) (stage.Groups (first g.after)) (group_item (record { first = g.self; others = those_called (called g.self) g.after }) ∷ [])
  step_group at k g there e =
      let b = groups_behind d law k g there in
      let l = ap length e in
      let m = ap length b in
      record {
        list = ap (λ gs. map group_item gs ++ from_position f n 0) e ∙ ap (λ gs. group_item (record { first = g.self; others = those_called (called g.self) g.after }) ∷ (map group_item gs ++ from_position f n 0)) (sym b);
        falls = omega arith;
      }

  -- omissions
  pub omissions_end : (i : ℕ) → nth f i ≡ None → Moves d fs h form (stage.Omissions i) End
  omissions_end i e = record { turned = at_here (stage.Omissions i) ∙ ap (omission_items n i) (nth_none f i e); falls = tt }

  pub step_omission : (i : ℕ) (m : List ℕ) → nth f i ≡ Some m → Step (stage.Omissions i) (stage.Omissions (i + 1)) (when (unmet n m) (item (omitted i m) omission))
  step_omission i m e =
      let b = nth_below f i m e in
      record {
        list = ap (omission_items n i) (nth_some f i m e) ∙ ap (λ k. when (unmet n m) (item (omitted i m) omission) ++ omission_items n k (drop (i + 1) f)) (sym (add-one i));
        falls = omega arith;
      }
