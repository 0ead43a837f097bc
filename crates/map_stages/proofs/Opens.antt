-- A map that was opened has the whole list to come. Assumes nothing.
use Rattle.std.proofs.Common.{◌≡◌, ℕ, suc, ◌+◌, ◌^◌, ◌<◌, ◌≤◌, ltb, List, [], ◌∷◌, ◌++◌, map, length, Some, None, filter, Option, sym, refl, ap, ◌∙◌, subst, append-nil, arith}
use Rattle.std.proofs.lemmas.Bool.{lt-ltb}
use Rattle.tree.specs.declared.handle.NodeHandle.{NodeHandle}
use Rattle.tree.specs.declared.handle.EntryHandle.{EntryHandle}
use Rattle.tree.specs.Document.{Ident, Entry, Nodes, Argument, Property, head_in, arguments_from, argument_then, number_after, properties, listed}
use Rattle.tree.specs.Going.{Spot, found, first_of, first_node}
use Rattle.tree.specs.Limits.{Lawful}
use Rattle.spots.specs.Rows.{row, earlier}
use Rattle.spots.proofs.Rows.{row_top, earlier_top, entry_row_first}
use Rattle.spots.proofs.Few.{node_few}
use Rattle.forms.specs.Forms.{Form, form_of}
use Rattle.forms.specs.Keys.{name, type}
use Rattle.lists.specs.Each.{if_some, for_each}
use Rattle.lists.specs.Properties.{in_force}
use Rattle.lists.specs.Groups.{children, groups_after}
use Rattle.lists.specs.Places.{identifier, Item}
use Rattle.lists.specs.Stages.{from_args}
use Rattle.lists.specs.Lists.{asked, group_item, argument_items, property_items, plain_property, document_list, map_list, struct_list}
use Rattle.lists.specs.Placement.{Placed, Mapped, Collected}
use Rattle.lists.proofs.Holds.{placed, mapped, collected}
use Rattle.map_stages.specs.declared.access.Stage.TheVariants as stage
use Rattle.map_stages.specs.Coming.{numbered, from_properties, of_node, staged}
use Rattle.map_stages.specs.Opening.{OpensStruct, OpensMap, OpensDocument}

abbrev fitting : List Argument → List Argument
fitting as' = filter (λ (a : Argument). ltb a.number (2 ^ 32)) as'

all_then : (o : Option Ident) (i : ℕ) (e : Entry) (es : List Entry) → i < 2 ^ 32 → fitting (arguments_from (suc i) es) ≡ arguments_from (suc i) es → fitting (arguments_from i es) ≡ arguments_from i es
    → fitting (argument_then o i e (arguments_from (number_after o i) es)) ≡ argument_then o i e (arguments_from (number_after o i) es)
all_then None i e es h more same = rw (lt-ltb i (2 ^ 32) h) (ap (λ l. record { number = i; entry = e } ∷ l) more)
all_then (Some m) i e es h more same = same

-- 32 bits hold all numbers of a node's arguments
pub numbered_all : (i : ℕ) (es : List Entry) → i + length es ≤ 2 ^ 32 → numbered i es ≡ arguments_from i es
unfolding numbered
numbered_all i [] h = refl
numbered_all i (e ∷ es) h = all_then e.name i e es (omega arith) (numbered_all (suc i) es (omega arith)) (numbered_all i es (omega arith))

plain_of : (p : Property) (o : Option Ident) → if_some {Y = Item} o (λ t. []) ++ (plain_property p ∷ []) ≡ plain_property p ∷ []
plain_of p None = refl
plain_of p (Some t) = refl

-- without a form, a property comes under its own name alone
plain_only : (ps : List Property) → for_each (property_items []) ps ≡ map plain_property ps
plain_only [] = refl
plain_only (p ∷ ps) = (λ i. plain_of p p.entry.type i ++ plain_only ps i)

module _ (d : Nodes) (law : Lawful d) (fs : List Form) (h : NodeHandle) where
  struct_start : (i : ℕ) (s : Spot) → found d h ≡ Some s → staged d fs h (Some i) stage.Name ≡ struct_list (form_of fs i) s.self
  struct_start i s is =
      let f = form_of fs i in
      let n = s.self in
      let few = node_few d law h s is in
      ap (of_node d f stage.Name) is
      ∙ ap (λ l. asked f name (identifier (head_in n).name) ++ (if_some (head_in n).type (λ t. asked f type (identifier t)) ++ (for_each (argument_items f) l ++ from_args f n))) (numbered_all 0 (head_in n).entries (omega arith))

  map_start : (s : Spot) → found d h ≡ Some s → staged d fs h None (stage.AtProperty (first_of (head_in s.self).entries)) ≡ map_list s.self
  map_start s is =
      let n = s.self in
      ap (of_node d [] (stage.AtProperty (first_of (head_in n).entries))) is
      ∙ ap (from_properties [] n) (entry_row_first d law h s is)
      ∙ (λ i. plain_only (in_force (properties n)) i ++ append-nil (map group_item (groups_after [] (children n))) i)

  pub opens_struct : (i : ℕ) → OpensStruct d fs h i (record { node = h; form = Some i; stage = stage.Name })
  opens_struct i = record {
    list = struct_start i;
    placed = λ s is. subst (Placed (form_of fs i) s.self) (sym (struct_start i s is)) (placed (form_of fs i) s.self);
  }

  -- where the code starts at the first entry of the node
  pub opens_map : (at : Option EntryHandle) → ((s : Spot) → found d h ≡ Some s → at ≡ first_of (head_in s.self).entries) → OpensMap d fs h (record { node = h; form = None; stage = stage.AtProperty at })
  opens_map at is-first = record {
    list = λ s is. ap (λ o. staged d fs h None (stage.AtProperty o)) (is-first s is) ∙ map_start s is;
    placed = λ s is. subst (Mapped s.self) (sym (ap (λ o. staged d fs h None (stage.AtProperty o)) (is-first s is) ∙ map_start s is)) (mapped s.self);
  }

pub opens_document : (d : Nodes) → Lawful d → OpensDocument d (record { at = first_node d })
opens_document d law =
    let e : map group_item (groups_after (earlier d (first_node d)) (row d (first_node d))) ≡ document_list (listed d) = (λ i. map group_item (groups_after (earlier_top d law i) (row_top d law i))) in
    record { list = e; placed = subst (Collected (listed d)) (sym e) (collected (listed d)) }
