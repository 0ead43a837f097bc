-- One stage after another. Assumes nothing.
use Rattle.std.proofs.Common.{◌≡◌, ℕ, zero, suc, ◌≤◌, Bool, true, false, cond, not, List, [], ◌∷◌, ◌++◌, map, length, take, drop, Some, None, Option, sym, refl, ap, ◌∙◌, append_assoc, add-one, lit≤}
use Rattle.tree.specs.Document.{Ident, Entry, Node, Property, head_in, arguments, arguments_from, argument_then, number_after, properties_in, property_then}
use Rattle.forms.proofs.Members.{nth_some, nth_none}
use Rattle.forms.specs.Forms.{Form, nth, has}
use Rattle.forms.specs.Keys.{Key, name, type, args, rest, argument, argument_type, at_property, at_property_type, omitted, spelled}
use Rattle.lists.specs.Each.{when, if_some, for_each}
use Rattle.lists.specs.Properties.{is_property, in_force}
use Rattle.lists.specs.Groups.{Group, called, children, is_child, those_called, groups_after}
use Rattle.lists.specs.Places.{Place, Item, value, identifier, arg_list, omission}
use Rattle.lists.specs.Lists.{item, asked, group_item, argument_items, unasked, plain_property, property_items, unmet, omission_items}
use Rattle.lists.specs.Stages.{turn, after, Staged, Stages, from_node, group_of, node_turn, document_turn, property_of, MapStage, by_entry, by_child, plain_from, map_to_come, plain_of, plain_turn, child_turn, map_turn, Stage, titled, typed, argued, numbered, collected, left_over, owned, owned_type, owned_plain, grouped, omitting, to_come, turn_at, argued_turn, argument_turn, owned_turn, property_turn, grouped_turn, omission_turn, from_argument, from_property, from_child, from_position, from_args, argument_itself, property_type, property_plain}
use Rattle.lists.proofs.Names.{none_some}
use Rattle.lists.proofs.Falling.{document_left, document_falls, map_left, map_falls, left, falls}

pub drop_here : {X : Type 0} (xs : List X) (k : ℕ) (x : X) → nth xs k ≡ Some x → drop k xs ≡ x ∷ drop (suc k) xs
drop_here xs k x e = rw add-one at (nth_some xs k x e)

pub take_here : {X : Type 0} (xs : List X) (k : ℕ) (x : X) → nth xs k ≡ Some x → take (suc k) xs ≡ take k xs ++ x ∷ []
take_here [] k x e = absurd (none_some e)
take_here (y ∷ ys) zero x e = let h : y ≡ x = cc in ap (λ z. z ∷ []) h
take_here (y ∷ ys) (suc k) x e = ap (λ l. y ∷ l) (take_here ys k x e)

-- one step of each part, over what is left of the nodes or entries

-- the node c comes after those before and before the others
pub next_group : (before : List Node) (c : Node) (cs : List Node) → map group_item (groups_after before (c ∷ cs)) ≡ group_of before c cs ++ map group_item (groups_after (before ++ c ∷ []) cs)
next_group before c cs = go (is_child before (called c))
  where
    others : List Group
    others = groups_after (before ++ c ∷ []) cs

    own : Group
    own = record { first = c; others = those_called (called c) cs }

    go : (b : Bool) → map group_item (cond b others (own ∷ others)) ≡ when (not b) (group_item own) ++ map group_item others
    go true = refl
    go false = refl

-- a property p comes before the others ps
pub next_property : {X : Type 0} (g : Property → List X) (p : Property) (ps : List Property)
    → for_each g (in_force (p ∷ ps)) ≡ cond (is_property ps p.name.bytes) [] (g p) ++ for_each g (in_force ps)
next_property g p ps = go (is_property ps p.name.bytes)
  where
    go : (b : Bool) → for_each g (cond b (in_force ps) (p ∷ in_force ps)) ≡ cond b [] (g p) ++ for_each g (in_force ps)
    go true = refl
    go false = refl

at_node : (cs : List Node) (j : ℕ) (c : Node) → nth cs j ≡ Some c → from_node cs j ≡ group_of (take j cs) c (drop (suc j) cs) ++ from_node cs (suc j)
at_node cs j c e =
    ap (λ l. map group_item (groups_after (take j cs) l)) (drop_here cs j c e)
    ∙ next_group (take j cs) c (drop (suc j) cs)
    ∙ ap (λ l. group_of (take j cs) c (drop (suc j) cs) ++ map group_item (groups_after l (drop (suc j) cs))) (sym (take_here cs j c e))

no_node : (cs : List Node) (j : ℕ) → nth cs j ≡ None → from_node cs j ≡ []
no_node cs j e = ap (λ l. map group_item (groups_after (take j cs) l)) (nth_none cs j e)

-- at most one item
one_when : {X : Type 0} (b : Bool) (x : X) → length (when b x) ≤ 1
one_when true x = lit≤ tt
one_when false x = lit≤ tt

one_some : {X Y : Type 0} (o : Option X) (g : X → List Y) → ((x : X) → length (g x) ≤ 1) → length (if_some o g) ≤ 1
one_some None g h = lit≤ tt
one_some (Some x) g h = h x

one_asked : (f : Form) (k : Key) (p : Place) → length (asked f k p) ≤ 1
one_asked f k p = one_when (has f (spelled k)) (item k p)

one_group : (before : List Node) (c : Node) (cs : List Node) → length (group_of before c cs) ≤ 1
one_group before c cs = one_when (not (is_child before (called c))) (group_item (record { first = c; others = those_called (called c) cs }))

-- a document
module _ (ns : List Node) where
  document_steps : (j : ℕ) (o : Option Node) → nth ns j ≡ o → from_node ns j ≡ (node_turn ns j o).items ++ after (from_node ns) (node_turn ns j o).next
  document_steps j None e = no_node ns j e
  document_steps j (Some c) e = at_node ns j c e

  document_single : (j : ℕ) (o : Option Node) → length (node_turn ns j o).items ≤ 1
  document_single j None = lit≤ tt
  document_single j (Some c) = one_group (take j ns) c (drop (suc j) ns)

  pub document_staged : Staged (from_node ns) (document_turn ns) 0 (from_node ns 0)
  document_staged = record { starts = refl; turns = λ j. document_steps j (nth ns j) refl; single = λ j. document_single j (nth ns j); left = document_left ns; falls = document_falls ns }

-- a map
module _ (n : Node) where
  child_steps : (j : ℕ) (o : Option Node) → nth (children n) j ≡ o → from_node (children n) j ≡ (child_turn n j o).items ++ after (map_to_come n) (child_turn n j o).next
  child_steps j None e = no_node (children n) j e
  child_steps j (Some c) e = at_node (children n) j c e

  plain_steps : (e : ℕ) (o : Option Entry) → nth (head_in n).entries e ≡ o → plain_from n e ≡ (plain_turn n e o).items ++ after (map_to_come n) (plain_turn n e o).next
  plain_steps e None h = ap (λ l. map plain_property (in_force (properties_in l)) ++ from_node (children n) 0) (nth_none (head_in n).entries e h)
  plain_steps e (Some x) h = ap (λ l. map plain_property (in_force (properties_in l)) ++ from_node (children n) 0) (drop_here (head_in n).entries e x h) ∙ go x.name
    where
      later : List Property
      later = properties_in (drop (suc e) (head_in n).entries)

      pick : (m : Ident) (b : Bool)
          → map plain_property (cond b (in_force later) (property_of x m ∷ in_force later)) ++ from_node (children n) 0 ≡ when (not b) (plain_property (property_of x m)) ++ plain_from n (suc e)
      pick m true = refl
      pick m false = refl

      go : (o : Option Ident) → map plain_property (in_force (property_then o x later)) ++ from_node (children n) 0 ≡ plain_of n e x o ++ plain_from n (suc e)
      go None = refl
      go (Some m) = pick m (is_property later m.bytes)

  map_steps : (s : MapStage) → map_to_come n s ≡ (map_turn n s).items ++ after (map_to_come n) (map_turn n s).next
  map_steps (by_entry e) = plain_steps e (nth (head_in n).entries e) refl
  map_steps (by_child j) = child_steps j (nth (children n) j) refl

  one_plain : (e : ℕ) (x : Entry) (o : Option Ident) → length (plain_of n e x o) ≤ 1
  one_plain e x None = lit≤ tt
  one_plain e x (Some m) = one_when (not (is_property (properties_in (drop (suc e) (head_in n).entries)) m.bytes)) (plain_property (property_of x m))

  plain_single : (e : ℕ) (o : Option Entry) → length (plain_turn n e o).items ≤ 1
  plain_single e None = lit≤ tt
  plain_single e (Some x) = one_plain e x x.name

  child_single : (j : ℕ) (o : Option Node) → length (child_turn n j o).items ≤ 1
  child_single j None = lit≤ tt
  child_single j (Some c) = one_group (take j (children n)) c (drop (suc j) (children n))

  map_single : (s : MapStage) → length (map_turn n s).items ≤ 1
  map_single (by_entry e) = plain_single e (nth (head_in n).entries e)
  map_single (by_child j) = child_single j (nth (children n) j)

-- a struct
module _ (f : Form) (n : Node) where
  at_position : (i : ℕ) (o : Option (List ℕ)) → nth f i ≡ o → from_position f n i ≡ (omission_turn f n i o).items ++ after (to_come f n) (omission_turn f n i o).next
  at_position i None e = ap (omission_items n i) (nth_none f i e)
  at_position i (Some m) e = ap (omission_items n i) (drop_here f i m e)

  at_child : (j : ℕ) (o : Option Node) → nth (children n) j ≡ o → from_child f n j ≡ (grouped_turn f n j o).items ++ after (to_come f n) (grouped_turn f n j o).next
  at_child j None e = ap (λ l. l ++ from_position f n 0) (no_node (children n) j e)
  at_child j (Some c) e =
      ap (λ l. l ++ from_position f n 0) (at_node (children n) j c e)
      ∙ append_assoc (group_of (take j (children n)) c (drop (suc j) (children n))) (from_node (children n) (suc j)) (from_position f n 0)

  at_argument : (e i : ℕ) (o : Option Entry) → nth (head_in n).entries e ≡ o → from_argument f n e i ≡ (argued_turn f n e i o).items ++ after (to_come f n) (argued_turn f n e i o).next
  at_argument e i None h = ap (λ l. for_each (argument_items f) (arguments_from i l) ++ from_args f n) (nth_none (head_in n).entries e h)
  at_argument e i (Some x) h = ap (λ l. for_each (argument_items f) (arguments_from i l) ++ from_args f n) (drop_here (head_in n).entries e x h) ∙ go x.name
    where
      later : List Entry
      later = drop (suc e) (head_in n).entries

      go : (o : Option Ident)
          → for_each (argument_items f) (argument_then o i x (arguments_from (number_after o i) later)) ++ from_args f n
          ≡ (argument_turn f n e i x o).items ++ after (to_come f n) (argument_turn f n e i x o).next
      go (Some m) = refl
      go None =
          let types = if_some x.type (λ t. item (argument_type i) (identifier t) ∷ []) in
          let own = asked f (argument i) (value x) in
          let others = for_each (argument_items f) (arguments_from (suc i) later) in
          append_assoc (types ++ own) others (from_args f n) ∙ append_assoc types own (others ++ from_args f n)
          ∙ ap (λ o. types ++ (argument_itself f n i o ++ (others ++ from_args f n))) (sym h)

  at_property_here : (e : ℕ) (o : Option Entry) → nth (head_in n).entries e ≡ o → from_property f n e ≡ (owned_turn f n e o).items ++ after (to_come f n) (owned_turn f n e o).next
  at_property_here e None h = ap (λ l. for_each (property_items f) (in_force (properties_in l)) ++ from_child f n 0) (nth_none (head_in n).entries e h)
  at_property_here e (Some x) h = ap (λ l. for_each (property_items f) (in_force (properties_in l)) ++ from_child f n 0) (drop_here (head_in n).entries e x h) ∙ go x.name refl
    where
      later : List Property
      later = properties_in (drop (suc e) (head_in n).entries)

      others : List Item
      others = for_each (property_items f) (in_force later)

      type_of : Option Ident → List Item
      type_of o = if_some o (λ m. if_some x.type (λ t. asked f (at_property_type m.bytes) (identifier t)))

      itself_of : Option Ident → List Item
      itself_of o = if_some o (λ m. plain_property (property_of x m) ∷ [])

      pick : (m : Ident) → x.name ≡ Some m → (b : Bool)
          → for_each (property_items f) (cond b (in_force later) (property_of x m ∷ in_force later)) ++ from_child f n 0
          ≡ (cond b (turn [] (owned (suc e))) (turn (asked f (at_property m.bytes) (value x)) (owned_type e))).items
          ++ after (to_come f n) (cond b (turn [] (owned (suc e))) (turn (asked f (at_property m.bytes) (value x)) (owned_type e))).next
      pick m q true = refl
      pick m q false =
          let at = asked f (at_property m.bytes) (value x) in
          let kind = if_some x.type (λ t. asked f (at_property_type m.bytes) (identifier t)) in
          let own = plain_property (property_of x m) ∷ [] in
          append_assoc (at ++ (kind ++ own)) others (from_child f n 0) ∙ append_assoc at (kind ++ own) (others ++ from_child f n 0) ∙ ap (λ l. at ++ l) (append_assoc kind own (others ++ from_child f n 0))
          ∙ ap (λ o. at ++ (type_of o ++ (itself_of o ++ from_property f n (suc e)))) (sym q)
          ∙ ap (λ o. at ++ (property_type f n o ++ (property_plain f n o ++ from_property f n (suc e)))) (sym h)

      go : (o : Option Ident) → x.name ≡ o → for_each (property_items f) (in_force (property_then o x later)) ++ from_child f n 0 ≡ (property_turn f n e x o).items ++ after (to_come f n) (property_turn f n e x o).next
      go None q = refl
      go (Some m) q = pick m q (is_property later m.bytes)

  steps : (s : Stage) → to_come f n s ≡ (turn_at f n s).items ++ after (to_come f n) (turn_at f n s).next
  steps titled = refl
  steps typed = refl
  steps (argued e i) = at_argument e i (nth (head_in n).entries e) refl
  steps (numbered e i) = refl
  steps collected = refl
  steps left_over = refl
  steps (owned e) = at_property_here e (nth (head_in n).entries e) refl
  steps (owned_type e) = refl
  steps (owned_plain e) = refl
  steps (grouped j) = at_child j (nth (children n) j) refl
  steps (omitting i) = at_position i (nth f i) refl

  one_argument : (e i : ℕ) (o : Option Entry) → length (argued_turn f n e i o).items ≤ 1
  one_argument e i None = lit≤ tt
  one_argument e i (Some x) = go x.name
    where
      go : (o : Option Ident) → length (argument_turn f n e i x o).items ≤ 1
      go None = one_some x.type (λ t. item (argument_type i) (identifier t) ∷ []) (λ t. lit≤ tt)
      go (Some m) = lit≤ tt

  one_property : (e : ℕ) (o : Option Entry) → length (owned_turn f n e o).items ≤ 1
  one_property e None = lit≤ tt
  one_property e (Some x) = go x.name
    where
      pick : (m : Ident) (b : Bool) → length (cond b (turn [] (owned (suc e))) (turn (asked f (at_property m.bytes) (value x)) (owned_type e))).items ≤ 1
      pick m true = lit≤ tt
      pick m false = one_asked f (at_property m.bytes) (value x)

      go : (o : Option Ident) → length (property_turn f n e x o).items ≤ 1
      go None = lit≤ tt
      go (Some m) = pick m (is_property (properties_in (drop (suc e) (head_in n).entries)) m.bytes)

  one_child : (j : ℕ) (o : Option Node) → length (grouped_turn f n j o).items ≤ 1
  one_child j None = lit≤ tt
  one_child j (Some c) = one_group (take j (children n)) c (drop (suc j) (children n))

  one_omission : (i : ℕ) (o : Option (List ℕ)) → length (omission_turn f n i o).items ≤ 1
  one_omission i None = lit≤ tt
  one_omission i (Some m) = one_when (unmet n m) (item (omitted i m) omission)

  single : (s : Stage) → length (turn_at f n s).items ≤ 1
  single titled = one_asked f name (identifier (head_in n).name)
  single typed = one_some (head_in n).type (λ t. asked f type (identifier t)) (λ t. one_asked f type (identifier t))
  single (argued e i) = one_argument e i (nth (head_in n).entries e)
  single (numbered e i) = one_some (nth (head_in n).entries e) (λ x. asked f (argument i) (value x)) (λ x. one_asked f (argument i) (value x))
  single collected = one_asked f args (arg_list (arguments n))
  single left_over = one_asked f rest (arg_list (unasked f (arguments n)))
  single (owned e) = one_property e (nth (head_in n).entries e)
  single (owned_type e) =
      one_some (nth (head_in n).entries e) (λ x. if_some x.name (λ m. if_some x.type (λ t. asked f (at_property_type m.bytes) (identifier t))))
      (λ x. one_some x.name (λ m. if_some x.type (λ t. asked f (at_property_type m.bytes) (identifier t)))
      (λ m. one_some x.type (λ t. asked f (at_property_type m.bytes) (identifier t)) (λ t. one_asked f (at_property_type m.bytes) (identifier t))))
  single (owned_plain e) =
      one_some (nth (head_in n).entries e) (λ x. if_some x.name (λ m. plain_property (property_of x m) ∷ []))
      (λ x. one_some x.name (λ m. plain_property (property_of x m) ∷ []) (λ m. lit≤ tt))
  single (grouped j) = one_child j (nth (children n) j)
  single (omitting i) = one_omission i (nth f i)

pub staged : Stages
staged =
    record {
      structs = λ f n. record { starts = refl; turns = steps f n; single = single f n; left = left f n; falls = falls f n };
      maps = λ n. record { starts = refl; turns = map_steps n; single = map_single n; left = map_left n; falls = map_falls n };
      documents = document_staged;
    }
