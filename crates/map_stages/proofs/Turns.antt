-- What each stage gives, from what the tree and the forms answered. Assumes nothing.
use Rattle.std.proofs.Common.{◌≡◌, ℕ, ◌+◌, ◌^◌, ◌<◌, Bool, true, false, cond, ltb, List, [], ◌∷◌, ◌++◌, Some, None, Option, sym, refl, ap, ◌∙◌, subst}
use Rattle.std.proofs.lemmas.Bool.{ltb-false}
use Rattle.tree.specs.declared.handle.NodeHandle.{NodeHandle}
use Rattle.tree.specs.declared.handle.EntryHandle.{EntryHandle}
use Rattle.tree.specs.declared.span.Span.{Span}
use Rattle.tree.specs.Document.{Ident, Node, Nodes, head_in, arguments, properties_in}
use Rattle.tree.specs.Going.{Spot, EntrySpot, then, found, found_entry, first, first_of, first_entry, next_entry, next_sibling, node_type, entry_name, entry_type, entry_span}
use Rattle.tree.specs.Limits.{Lawful}
use Rattle.spots.specs.Rows.{row, earlier, entry_row, entry_row_of, inner, inner_of}
use Rattle.spots.proofs.Finding.{none_some}
use Rattle.spots.proofs.Rows.{entry_row_next}
use Rattle.forms.specs.Forms.{Form, nth, has, form_of, name_at}
use Rattle.forms.specs.Keys.{type, argument_type, argument, rest, at_property, at_property_type, property, omitted, spelled}
use Rattle.lists.specs.Each.{when}
use Rattle.lists.specs.Properties.{is_property}
use Rattle.lists.specs.Groups.{called, those_called, groups_after}
use Rattle.lists.specs.Places.{value, identifier, arg_list, omission}
use Rattle.lists.specs.Lists.{item, asked, group_item, plain_property, unasked, unmet}
use Rattle.lists.specs.Stages.{property_of}
use Rattle.places.specs.declared.place.Place.TheVariants as place
use Rattle.places.specs.declared.item.KeyKind.TheVariants as kind
use Rattle.places.specs.declared.item.Part.TheVariants as part
use Rattle.places.specs.declared.item.Item.{Item}
use Rattle.places.specs.Meant.{at_spot, at_entry, at_ident, entry_bytes, ident_bytes, bytes_or, item_meant}
use Rattle.map_stages.specs.declared.access.Stage.{Stage}
use Rattle.map_stages.specs.declared.access.Stage.TheVariants as stage
use Rattle.map_stages.specs.declared.access.Turn.{Turn}
use Rattle.map_stages.specs.declared.access.Turn.TheVariants.{End, Pass, Give}
use Rattle.map_stages.specs.Coming.{form_in}
use Rattle.map_stages.specs.Turning.{Moves}
use Rattle.map_stages.proofs.Steps.{Step, passed, given, asked_given, asked_passed, step_type, step_no_type, step_arguments_end, step_pass_property, step_argument_type, step_argument_no_type, step_argument, step_argument_last, step_pass_argument, step_overridden, step_at_property, step_property_type, step_property_no_type, step_property, step_no_property_type, step_no_property, step_no_argument, step_lost_type, step_lost_property, step_rest, step_properties_end, step_groups_end, step_group, omissions_end, step_omission}

-- an entry that has a span stands in the document, and one that has none does not
pub there : (d : Nodes) (e : EntryHandle) (sp : Span) → Some sp ≡ entry_span d e → (x : EntrySpot) × (found_entry d e ≡ Some x)
there d e sp h = go (found_entry d e) refl h
  where
    go : (o : Option EntrySpot) → found_entry d e ≡ o → Some sp ≡ then o (λ (s : EntrySpot). Some s.self.span) → (x : EntrySpot) × (found_entry d e ≡ Some x)
    go None is k = none_some sp (sym k)
    go (Some x) is k = (x, is)

pub gone : (d : Nodes) (e : EntryHandle) → None ≡ entry_span d e → found_entry d e ≡ None
gone d e h = go (found_entry d e) refl h
  where
    go : (o : Option EntrySpot) → found_entry d e ≡ o → None ≡ then o (λ (s : EntrySpot). Some s.self.span) → found_entry d e ≡ None
    go None is k = is
    go (Some x) is k = none_some x.self.span k

-- likewise by its name
named_there : (d : Nodes) (e : EntryHandle) (m : Ident) → Some m ≡ entry_name d e → (x : EntrySpot) × (found_entry d e ≡ Some x) × (x.self.name ≡ Some m)
named_there d e m h = go (found_entry d e) refl h
  where
    go : (o : Option EntrySpot) → found_entry d e ≡ o → Some m ≡ then o (λ (s : EntrySpot). s.self.name) → (x : EntrySpot) × (found_entry d e ≡ Some x) × (x.self.name ≡ Some m)
    go None is k = none_some m (sym k)
    go (Some x) is k = (x, is, sym k)

module _ (d : Nodes) (law : Lawful d) (fs : List Form) (h : NodeHandle) (form : Option ℕ) (s : Spot) (is : found d h ≡ Some s) where
  abbrev f : Form
  f = form_in fs form

  abbrev n : Node
  n = s.self

  first_is : first_entry d h ≡ first_of (head_in n).entries
  first_is = ap (λ o. then o (λ (z : Spot). first_of (head_in z.self).entries)) is

  type_is : node_type d h ≡ (head_in n).type
  type_is = ap (λ o. then o (λ (z : Spot). (head_in z.self).type)) is

  moved : (u : Stage) (t w : Turn) → t ≡ w → Moves d fs h form u w → Moves d fs h form u t
  moved u t w e m = subst (Moves d fs h form u) (sym e) m

  -- "#type"
  pub type_none : (at : Option EntryHandle) → at ≡ first_entry d h → None ≡ node_type d h → Moves d fs h form stage.«Type» (Pass (stage.ArgumentType at 0))
  type_none at a e = moved _ _ _ (ap (λ o. Pass (stage.ArgumentType o 0)) (a ∙ first_is)) (passed d law fs h form s is _ _ (step_no_type d law fs h form s is (sym (e ∙ type_is))))

  pub type_passed : (at : Option EntryHandle) (t : Ident) → at ≡ first_entry d h → Some t ≡ node_type d h → false ≡ has f (spelled type) → Moves d fs h form stage.«Type» (Pass (stage.ArgumentType at 0))
  type_passed at t a e b = moved _ _ _ (ap (λ o. Pass (stage.ArgumentType o 0)) (a ∙ first_is)) (asked_passed d law fs h form s is _ _ type (identifier t) (step_type d law fs h form s is t (sym (e ∙ type_is))) b)

  pub type_given : (at : Option EntryHandle) (t : Ident) (x : Item) → at ≡ first_entry d h → Some t ≡ node_type d h → true ≡ has f (spelled type)
      → x ≡ record { key = record { kind = kind.«Type»; number = 0; part = part.Nothing }; place = place.NodeType h } → Moves d fs h form stage.«Type» (Give x (stage.ArgumentType at 0))
  type_given at t x a e b q =
      moved _ _ _ (ap (λ o. Give x (stage.ArgumentType o 0)) (a ∙ first_is))
      (asked_given d law fs h form s is _ _ x type (identifier t) (step_type d law fs h form s is t (sym (e ∙ type_is))) b
      (ap (item_meant d fs) q ∙ ap (item type) (ap (λ o. at_spot o (λ (z : Spot). at_ident (head_in z.self).type)) is ∙ ap at_ident (sym (e ∙ type_is)))))

  -- "#rest"
  pub rest_passed : (at : Option EntryHandle) → at ≡ first_entry d h → false ≡ has f (spelled rest) → Moves d fs h form stage.Rest (Pass (stage.AtProperty at))
  rest_passed at a b = moved _ _ _ (ap (λ o. Pass (stage.AtProperty o)) (a ∙ first_is)) (asked_passed d law fs h form s is _ _ rest (arg_list (unasked f (arguments n))) (step_rest d law fs h form s is) b)

  pub rest_unasked : (at : Option EntryHandle) → at ≡ first_entry d h → form ≡ None → Moves d fs h form stage.Rest (Pass (stage.AtProperty at))
  rest_unasked at a none = rest_passed at a (ap (λ o. has (form_in fs o) (spelled rest)) (sym none))

  pub rest_given : (at : Option EntryHandle) (i : ℕ) (x : Item) → at ≡ first_entry d h → form ≡ Some i → true ≡ has f (spelled rest)
      → x ≡ record { key = record { kind = kind.Rest; number = 0; part = part.Nothing }; place = place.Rest h i } → Moves d fs h form stage.Rest (Give x (stage.AtProperty at))
  rest_given at i x a some b q =
      moved _ _ _ (ap (λ o. Give x (stage.AtProperty o)) (a ∙ first_is))
      (asked_given d law fs h form s is _ _ x rest (arg_list (unasked f (arguments n))) (step_rest d law fs h form s is) b
      (ap (item_meant d fs) q ∙ ap (item rest) (ap (λ o. at_spot o (λ (z : Spot). arg_list (unasked (form_of fs i) (arguments z.self)))) is ∙ ap (λ o. arg_list (unasked (form_in fs o) (arguments n))) (sym some))))

  -- arguments
  pub arguments_none : (at : Option EntryHandle) (i : ℕ) → at ≡ None → Moves d fs h form (stage.ArgumentType at i) (Pass stage.Args)
  arguments_none at i none = passed d law fs h form s is _ _ (step_arguments_end d law fs h form s is at i (ap (entry_row d) none))

  pub arguments_gone : (at : Option EntryHandle) (i : ℕ) (e : EntryHandle) → at ≡ Some e → None ≡ entry_span d e → Moves d fs h form (stage.ArgumentType at i) (Pass stage.Args)
  arguments_gone at i e some g = passed d law fs h form s is _ _ (step_arguments_end d law fs h form s is at i (ap (entry_row d) some ∙ ap entry_row_of (gone d e g)))

  module _ (e : EntryHandle) (x : EntrySpot) (here : found_entry d e ≡ Some x) where
    next_is : next_entry d e ≡ first_of x.after
    next_is = ap (λ o. then o (λ (z : EntrySpot). first_of z.after)) here

    name_is : entry_name d e ≡ x.self.name
    name_is = ap (λ o. then o (λ (z : EntrySpot). z.self.name)) here

    entry_type_is : entry_type d e ≡ x.self.type
    entry_type_is = ap (λ o. then o (λ (z : EntrySpot). z.self.type)) here

    type_meant : (t : Ident) → Some t ≡ entry_type d e → at_entry (found_entry d e) (λ z. at_ident z.type) ≡ identifier t
    type_meant t k = ap (λ o. at_entry o (λ z. at_ident z.type)) here ∙ ap at_ident (sym (k ∙ entry_type_is))

    value_meant : at_entry (found_entry d e) value ≡ value x.self
    value_meant = ap (λ o. at_entry o value) here

    bytes_meant : (m : Ident) → Some m ≡ entry_name d e → entry_bytes (found_entry d e) ≡ m.bytes
    bytes_meant m k = ap entry_bytes here ∙ ap ident_bytes (sym (k ∙ name_is))

  module _ (at : Option EntryHandle) (i : ℕ) (e : EntryHandle) (sp : Span) (some : at ≡ Some e) (k : Some sp ≡ entry_span d e) where
    argument_at : (t : Turn) → Moves d fs h form (stage.ArgumentType (Some e) i) t → Moves d fs h form (stage.ArgumentType at i) t
    argument_at t m = subst (λ o. Moves d fs h form (stage.ArgumentType o i) t) (sym some) m

    pub argument_property : (m : Ident) (nx : Option EntryHandle) → Some m ≡ entry_name d e → nx ≡ next_entry d e → Moves d fs h form (stage.ArgumentType at i) (Pass (stage.ArgumentType nx i))
    argument_property m nx a b =
        let x = there d e sp k in
        argument_at _ (moved _ _ _ (ap (λ o. Pass (stage.ArgumentType o i)) (b ∙ next_is e x.0 x.1)) (passed d law fs h form s is _ _ (step_pass_property d law fs h form s is e x.0 x.1 i m (sym (a ∙ name_is e x.0 x.1)))))

    pub argument_untyped : i < 2 ^ 32 → None ≡ entry_name d e → None ≡ entry_type d e → Moves d fs h form (stage.ArgumentType at i) (Pass (stage.Argument e i))
    argument_untyped small a b =
        let x = there d e sp k in
        argument_at _ (passed d law fs h form s is _ _ (step_argument_no_type d law fs h form s is e x.0 x.1 i (sym (a ∙ name_is e x.0 x.1)) (sym (b ∙ entry_type_is e x.0 x.1)) small))

    pub argument_typed : (t : Ident) (y : Item) → i < 2 ^ 32 → None ≡ entry_name d e → Some t ≡ entry_type d e
        → y ≡ record { key = record { kind = kind.ArgumentType; number = i; part = part.Nothing }; place = place.EntryType e } → Moves d fs h form (stage.ArgumentType at i) (Give y (stage.Argument e i))
    argument_typed t y small a b q =
        let x = there d e sp k in
        argument_at _ (given d law fs h form s is _ _ y (item (argument_type i) (identifier t)) (step_argument_type d law fs h form s is e x.0 x.1 i t (sym (a ∙ name_is e x.0 x.1)) (sym (b ∙ entry_type_is e x.0 x.1)) small)
        (ap (item_meant d fs) q ∙ ap (item (argument_type i)) (type_meant e x.0 x.1 t b)))

  pub itself_gone : (e : EntryHandle) (i : ℕ) → None ≡ entry_span d e → Moves d fs h form (stage.Argument e i) (Pass stage.Args)
  itself_gone e i g = passed d law fs h form s is _ _ (step_no_argument d law fs h form s is e (gone d e g) i)

  -- where the code goes on behind an argument
  abbrev pub behind : EntryHandle → ℕ → Stage
  behind e i = cond (ltb (i + 1) (2 ^ 32)) (stage.ArgumentType (next_entry d e) (i + 1)) stage.Args

  step_behind : (e : EntryHandle) (i : ℕ) (x : EntrySpot) (here : found_entry d e ≡ Some x) → Step d law fs h form s is (stage.Argument e i) (behind e i) (asked f (argument i) (value x.self))
  step_behind e i x here = go (ltb (i + 1) (2 ^ 32)) refl
    where
      go : (b : Bool) → ltb (i + 1) (2 ^ 32) ≡ b → Step d law fs h form s is (stage.Argument e i) (cond b (stage.ArgumentType (next_entry d e) (i + 1)) stage.Args) (asked f (argument i) (value x.self))
      go true q = subst (λ o. Step d law fs h form s is (stage.Argument e i) (stage.ArgumentType o (i + 1)) (asked f (argument i) (value x.self))) (sym (next_is e x here)) (step_argument d law fs h form s is e x here i)
      go false q = step_argument_last d law fs h form s is e x here i (ltb-false (i + 1) (2 ^ 32) q)

  pub itself_passed : (e : EntryHandle) (i : ℕ) (sp : Span) (nx : Stage) → Some sp ≡ entry_span d e → nx ≡ behind e i → false ≡ has f (spelled (argument i)) → Moves d fs h form (stage.Argument e i) (Pass nx)
  itself_passed e i sp nx k a b =
      let x = there d e sp k in
      moved _ _ _ (ap Pass a) (asked_passed d law fs h form s is _ _ (argument i) (value x.0.self) (step_behind e i x.0 x.1) b)

  pub itself_given : (e : EntryHandle) (i : ℕ) (sp : Span) (nx : Stage) (y : Item) → Some sp ≡ entry_span d e → nx ≡ behind e i → true ≡ has f (spelled (argument i))
      → y ≡ record { key = record { kind = kind.Argument; number = i; part = part.Nothing }; place = place.Value e } → Moves d fs h form (stage.Argument e i) (Give y nx)
  itself_given e i sp nx y k a b q =
      let x = there d e sp k in
      moved _ _ _ (ap (Give y) a) (asked_given d law fs h form s is _ _ y (argument i) (value x.0.self) (step_behind e i x.0 x.1) b (ap (item_meant d fs) q ∙ ap (item (argument i)) (value_meant e x.0 x.1)))

  -- properties
  properties_end : (at : Option EntryHandle) (k : Option NodeHandle) → entry_row d at ≡ [] → k ≡ first (inner d h) → Moves d fs h form (stage.AtProperty at) (Pass (stage.Groups k))
  properties_end at k e a = moved _ _ _ (ap (λ o. Pass (stage.Groups o)) (a ∙ ap (λ o. first (inner_of o)) is)) (passed d law fs h form s is _ _ (step_properties_end d law fs h form s is at e))

  pub properties_none : (at : Option EntryHandle) (k : Option NodeHandle) → at ≡ None → k ≡ first (inner d h) → Moves d fs h form (stage.AtProperty at) (Pass (stage.Groups k))
  properties_none at k none a = properties_end at k (ap (entry_row d) none) a

  pub properties_gone : (at : Option EntryHandle) (k : Option NodeHandle) (e : EntryHandle) → at ≡ Some e → None ≡ entry_span d e → k ≡ first (inner d h) → Moves d fs h form (stage.AtProperty at) (Pass (stage.Groups k))
  properties_gone at k e some g a = properties_end at k (ap (entry_row d) some ∙ ap entry_row_of (gone d e g)) a

  module _ (at : Option EntryHandle) (e : EntryHandle) (some : at ≡ Some e) (nx : Option EntryHandle) (goes : nx ≡ next_entry d e) where
    property_at : (t : Turn) → Moves d fs h form (stage.AtProperty (Some e)) t → Moves d fs h form (stage.AtProperty at) t
    property_at t m = subst (λ o. Moves d fs h form (stage.AtProperty o) t) (sym some) m

    pub property_argument : (sp : Span) → Some sp ≡ entry_span d e → None ≡ entry_name d e → Moves d fs h form (stage.AtProperty at) (Pass (stage.AtProperty nx))
    property_argument sp k a =
        let x = there d e sp k in
        property_at _ (moved _ _ _ (ap (λ o. Pass (stage.AtProperty o)) (goes ∙ next_is e x.0 x.1)) (passed d law fs h form s is _ _ (step_pass_argument d law fs h form s is e x.0 x.1 (sym (a ∙ name_is e x.0 x.1)))))

    module _ (m : Ident) (a : Some m ≡ entry_name d e) where
      later : (x : EntrySpot) (here : found_entry d e ≡ Some x) → entry_row d nx ≡ x.after
      later x here = ap (entry_row d) (goes ∙ next_is e x here) ∙ entry_row_next d law e x here

      pub property_overridden : true ≡ is_property (properties_in (entry_row d nx)) m.bytes → Moves d fs h form (stage.AtProperty at) (Pass (stage.AtProperty nx))
      property_overridden over =
          let x = named_there d e m a in
          property_at _ (moved _ _ _ (ap (λ o. Pass (stage.AtProperty o)) (goes ∙ next_is e x.0 x.1)) (passed d law fs h form s is _ _ (step_overridden d law fs h form s is e x.0 x.1 m x.2 (over ∙ ap (λ l. is_property (properties_in l) m.bytes) (later x.0 x.1)))))

      pub property_passed : false ≡ is_property (properties_in (entry_row d nx)) m.bytes → false ≡ has f (spelled (at_property m.bytes)) → Moves d fs h form (stage.AtProperty at) (Pass (stage.PropertyType e))
      property_passed over b =
          let x = named_there d e m a in
          property_at _ (asked_passed d law fs h form s is _ _ (at_property m.bytes) (value x.0.self) (step_at_property d law fs h form s is e x.0 x.1 m x.2 (over ∙ ap (λ l. is_property (properties_in l) m.bytes) (later x.0 x.1))) b)

      pub property_given : (y : Item) → false ≡ is_property (properties_in (entry_row d nx)) m.bytes → true ≡ has f (spelled (at_property m.bytes))
          → y ≡ record { key = record { kind = kind.AtProperty; number = 0; part = part.Entry e }; place = place.Value e } → Moves d fs h form (stage.AtProperty at) (Give y (stage.PropertyType e))
      property_given y over b q =
          let x = named_there d e m a in
          property_at _ (asked_given d law fs h form s is _ _ y (at_property m.bytes) (value x.0.self) (step_at_property d law fs h form s is e x.0 x.1 m x.2 (over ∙ ap (λ l. is_property (properties_in l) m.bytes) (later x.0 x.1))) b
          (ap (item_meant d fs) q ∙ (λ j. item (at_property (bytes_meant e x.0 x.1 m a j)) (value_meant e x.0 x.1 j))))

  -- the type of a property
  pub property_unnamed : (e : EntryHandle) → None ≡ entry_name d e → Moves d fs h form (stage.PropertyType e) (Pass (stage.Property e))
  property_unnamed e a = go (found_entry d e) refl
    where
      go : (o : Option EntrySpot) → found_entry d e ≡ o → Moves d fs h form (stage.PropertyType e) (Pass (stage.Property e))
      go None q = passed d law fs h form s is _ _ (step_lost_type d law fs h form s is e q)
      go (Some x) q = passed d law fs h form s is _ _ (step_no_property_type d law fs h form s is e x q (sym (a ∙ name_is e x q)))

  module _ (e : EntryHandle) (m : Ident) (a : Some m ≡ entry_name d e) where
    pub property_untyped : None ≡ entry_type d e → Moves d fs h form (stage.PropertyType e) (Pass (stage.Property e))
    property_untyped b =
        let x = named_there d e m a in
        passed d law fs h form s is _ _ (step_property_no_type d law fs h form s is e x.0 x.1 m x.2 (sym (b ∙ entry_type_is e x.0 x.1)))

    pub property_type_passed : (t : Ident) → Some t ≡ entry_type d e → false ≡ has f (spelled (at_property_type m.bytes)) → Moves d fs h form (stage.PropertyType e) (Pass (stage.Property e))
    property_type_passed t b c =
        let x = named_there d e m a in
        asked_passed d law fs h form s is _ _ (at_property_type m.bytes) (identifier t) (step_property_type d law fs h form s is e x.0 x.1 m x.2 t (sym (b ∙ entry_type_is e x.0 x.1))) c

    pub property_type_given : (t : Ident) (y : Item) → Some t ≡ entry_type d e → true ≡ has f (spelled (at_property_type m.bytes))
        → y ≡ record { key = record { kind = kind.AtPropertyType; number = 0; part = part.Entry e }; place = place.EntryType e } → Moves d fs h form (stage.PropertyType e) (Give y (stage.Property e))
    property_type_given t y b c q =
        let x = named_there d e m a in
        asked_given d law fs h form s is _ _ y (at_property_type m.bytes) (identifier t) (step_property_type d law fs h form s is e x.0 x.1 m x.2 t (sym (b ∙ entry_type_is e x.0 x.1))) c
        (ap (item_meant d fs) q ∙ (λ j. item (at_property_type (bytes_meant e x.0 x.1 m a j)) (type_meant e x.0 x.1 t b j)))

    pub plain_given : (nx : Option EntryHandle) (y : Item) → nx ≡ next_entry d e
        → y ≡ record { key = record { kind = kind.Property; number = 0; part = part.Entry e }; place = place.Value e } → Moves d fs h form (stage.Property e) (Give y (stage.AtProperty nx))
    plain_given nx y goes q =
        let x = named_there d e m a in
        moved _ _ _ (ap (λ o. Give y (stage.AtProperty o)) (goes ∙ next_is e x.0 x.1))
        (given d law fs h form s is _ _ y (plain_property (property_of x.0.self m)) (step_property d law fs h form s is e x.0 x.1 m x.2)
        (ap (item_meant d fs) q ∙ (λ j. item (property (bytes_meant e x.0 x.1 m a j)) (value_meant e x.0 x.1 j))))

  pub plain_unnamed : (e : EntryHandle) (nx : Option EntryHandle) → None ≡ entry_name d e → nx ≡ next_entry d e → Moves d fs h form (stage.Property e) (Pass (stage.AtProperty nx))
  plain_unnamed e nx a goes = go (found_entry d e) refl
    where
      go : (o : Option EntrySpot) → found_entry d e ≡ o → Moves d fs h form (stage.Property e) (Pass (stage.AtProperty nx))
      go None q = moved _ _ _ (ap (λ o. Pass (stage.AtProperty o)) (goes ∙ ap (λ o. then o (λ (z : EntrySpot). first_of z.after)) q)) (passed d law fs h form s is _ _ (step_lost_property d law fs h form s is e q))
      go (Some x) q = moved _ _ _ (ap (λ o. Pass (stage.AtProperty o)) (goes ∙ next_is e x q)) (passed d law fs h form s is _ _ (step_no_property d law fs h form s is e x q (sym (a ∙ name_is e x q))))

  -- groups
  pub groups_end : (at : Option NodeHandle) → groups_after (earlier d at) (row d at) ≡ [] → Moves d fs h form (stage.Groups at) (Pass (stage.Omissions 0))
  groups_end at e = passed d law fs h form s is _ _ (step_groups_end d law fs h form s is at e)

  pub group_given : (at : Option NodeHandle) (k : NodeHandle) (g : Spot) (nx : Option NodeHandle) (y : Item) → found d k ≡ Some g
      → groups_after (earlier d at) (row d at) ≡ record { first = g.self; others = those_called (called g.self) g.after } ∷ groups_after (g.before ++ g.self ∷ []) g.after
      → nx ≡ next_sibling d k → item_meant d fs y ≡ group_item (record { first = g.self; others = those_called (called g.self) g.after }) → Moves d fs h form (stage.Groups at) (Give y (stage.Groups nx))
  group_given at k g nx y here e goes q =
      moved _ _ _ (ap (λ o. Give y (stage.Groups o)) (goes ∙ ap (λ o. then o (λ (z : Spot). first z.after)) here))
      (given d law fs h form s is _ _ y (group_item (record { first = g.self; others = those_called (called g.self) g.after })) (step_group d law fs h form s is at k g here e) q)

  -- omissions
  pub omissions_formless : (i : ℕ) → form ≡ None → Moves d fs h form (stage.Omissions i) End
  omissions_formless i none = omissions_end d law fs h form s is i (ap (λ o. nth (form_in fs o) i) none)

  module _ (i k : ℕ) (some : form ≡ Some k) where
    pub omissions_over : None ≡ name_at fs k i → Moves d fs h form (stage.Omissions i) End
    omissions_over e = omissions_end d law fs h form s is i (ap (λ o. nth (form_in fs o) i) some ∙ sym e)

    module _ (m : List ℕ) (e : Some m ≡ name_at fs k i) where
      at_position : nth f i ≡ Some m
      at_position = ap (λ o. nth (form_in fs o) i) some ∙ sym e

      pub omission_passed : false ≡ unmet n m → Moves d fs h form (stage.Omissions i) (Pass (stage.Omissions (i + 1)))
      omission_passed b = passed d law fs h form s is _ _ (subst (Step d law fs h form s is (stage.Omissions i) (stage.Omissions (i + 1))) (ap (λ c. when c (item (omitted i m) omission)) (sym b)) (step_omission d law fs h form s is i m at_position))

      pub omission_given : (y : Item) → true ≡ unmet n m → y ≡ record { key = record { kind = kind.Omission; number = i; part = part.Form k i }; place = place.Omission } → Moves d fs h form (stage.Omissions i) (Give y (stage.Omissions (i + 1)))
      omission_given y b q =
          given d law fs h form s is _ _ y (item (omitted i m) omission) (subst (Step d law fs h form s is (stage.Omissions i) (stage.Omissions (i + 1))) (ap (λ c. when c (item (omitted i m) omission)) (sym b)) (step_omission d law fs h form s is i m at_position))
          (ap (item_meant d fs) q ∙ ap (λ o. item (omitted i (bytes_or o)) omission) (sym e))
