-- How many turns of a list are left, at most. Assumes nothing.
use Rattle.std.proofs.Common.{◌≡◌, ℕ, suc, ◌+◌, ◌-◌, ◌*◌, ◌<◌, Bool, true, false, cond, List, [], length, drop, Some, None, Option, refl, subst, arith}
use Rattle.tree.specs.Document.{Ident, Entry, Node, head_in, properties_in}
use Rattle.forms.proofs.Members.{nth_below}
use Rattle.forms.specs.Forms.{Form, nth}
use Rattle.forms.specs.Keys.{at_property}
use Rattle.lists.specs.Properties.{is_property}
use Rattle.lists.specs.Groups.{children}
use Rattle.lists.specs.Places.{value}
use Rattle.lists.specs.Lists.{asked}
use Rattle.lists.specs.Stages.{turn, node_turn, document_turn, MapStage, by_entry, by_child, plain_turn, child_turn, map_turn, Stage, titled, typed, argued, numbered, collected, left_over, owned, owned_type, owned_plain, grouped, omitting, turn_at, argued_turn, argument_turn, owned_turn, property_turn, grouped_turn, omission_turn}
use Rattle.lists.proofs.Names.{none_some}

-- the next stage is u
to : {S : Type 0} (left : S → ℕ) (k : ℕ) (u t : S) → Some u ≡ Some t → left u < k → left t < k
to left k u t e h = let same : u ≡ t = cc in subst (λ (s : _). left s < k) same h

-- a document
abbrev pub document_left : List Node → ℕ → ℕ
document_left ns j = length ns - j

pub document_falls : (ns : List Node) (j t : ℕ) → (document_turn ns j).next ≡ Some t → document_left ns t < document_left ns j
document_falls ns j t h = go (nth ns j) refl h
  where
    go : (o : Option Node) → nth ns j ≡ o → (node_turn ns j o).next ≡ Some t → length ns - t < length ns - j
    go None e q = absurd (none_some q)
    go (Some c) e q = let b = nth_below ns j c e in to (document_left ns) (length ns - j) (suc j) t q (omega arith)

-- a map
module _ (n : Node) where
  abbrev pub map_left : MapStage → ℕ
  map_left (by_entry e) = suc (length (children n)) + (length (head_in n).entries - e)
  map_left (by_child j) = length (children n) - j

  entry_falls : (e : ℕ) (t : MapStage) (o : Option Entry) → nth (head_in n).entries e ≡ o → (plain_turn n e o).next ≡ Some t → map_left t < map_left (by_entry e)
  entry_falls e t None h q = to map_left (map_left (by_entry e)) (by_child 0) t q (omega arith)
  entry_falls e t (Some x) h q = let b = nth_below (head_in n).entries e x h in to map_left (map_left (by_entry e)) (by_entry (suc e)) t q (omega arith)

  child_falls : (j : ℕ) (t : MapStage) (o : Option Node) → nth (children n) j ≡ o → (child_turn n j o).next ≡ Some t → map_left t < map_left (by_child j)
  child_falls j t None h q = absurd (none_some q)
  child_falls j t (Some c) h q = let b = nth_below (children n) j c h in to map_left (map_left (by_child j)) (by_child (suc j)) t q (omega arith)

  pub map_falls : (s t : MapStage) → (map_turn n s).next ≡ Some t → map_left t < map_left s
  map_falls (by_entry e) t h = entry_falls e t (nth (head_in n).entries e) refl h
  map_falls (by_child j) t h = child_falls j t (nth (children n) j) refl h

-- a struct
module _ (f : Form) (n : Node) where
  abbrev entries : ℕ
  entries = length (head_in n).entries

  -- below those of the properties, and below those of the arguments
  abbrev later : ℕ
  later = 2 + length f + length (children n)

  abbrev last : ℕ
  last = later + 3 * entries + 3

  abbrev pub left : Stage → ℕ
  left titled = last + 2 * entries + 2
  left typed = last + 2 * entries + 1
  left (argued e i) = last + 2 * (entries - e)
  left (numbered e i) = last + 1 + 2 * (entries - suc e)
  left collected = later + 3 * entries + 2
  left left_over = later + 3 * entries + 1
  left (owned e) = later + 3 * (entries - e)
  left (owned_type e) = later + 2 + 3 * (entries - suc e)
  left (owned_plain e) = later + 1 + 3 * (entries - suc e)
  left (grouped j) = 1 + length f + (length (children n) - j)
  left (omitting i) = length f - i

  argument_falls : (e i : ℕ) (t : Stage) (o : Option Entry) → nth (head_in n).entries e ≡ o → (argued_turn f n e i o).next ≡ Some t → left t < left (argued e i)
  argument_falls e i t None h q = to left (left (argued e i)) collected t q (omega arith)
  argument_falls e i t (Some x) h q = go x.name q
    where
      go : (o : Option Ident) → (argument_turn f n e i x o).next ≡ Some t → left t < left (argued e i)
      go None r = let b = nth_below (head_in n).entries e x h in to left (left (argued e i)) (numbered e i) t r (omega arith)
      go (Some m) r = let b = nth_below (head_in n).entries e x h in to left (left (argued e i)) (argued (suc e) i) t r (omega arith)

  property_falls : (e : ℕ) (t : Stage) (o : Option Entry) → nth (head_in n).entries e ≡ o → (owned_turn f n e o).next ≡ Some t → left t < left (owned e)
  property_falls e t None h q = to left (left (owned e)) (grouped 0) t q (omega arith)
  property_falls e t (Some x) h q = go x.name q
    where
      past : Some (owned (suc e)) ≡ Some t → left t < left (owned e)
      past r = let b = nth_below (head_in n).entries e x h in to left (left (owned e)) (owned (suc e)) t r (omega arith)

      pick : (m : Ident) (b : Bool) → (cond b (turn [] (owned (suc e))) (turn (asked f (at_property m.bytes) (value x)) (owned_type e))).next ≡ Some t → left t < left (owned e)
      pick m true r = past r
      pick m false r = let b = nth_below (head_in n).entries e x h in to left (left (owned e)) (owned_type e) t r (omega arith)

      go : (o : Option Ident) → (property_turn f n e x o).next ≡ Some t → left t < left (owned e)
      go None r = past r
      go (Some m) r = pick m (is_property (properties_in (drop (suc e) (head_in n).entries)) m.bytes) r

  group_falls : (j : ℕ) (t : Stage) (o : Option Node) → nth (children n) j ≡ o → (grouped_turn f n j o).next ≡ Some t → left t < left (grouped j)
  group_falls j t None h q = to left (left (grouped j)) (omitting 0) t q (omega arith)
  group_falls j t (Some c) h q = let b = nth_below (children n) j c h in to left (left (grouped j)) (grouped (suc j)) t q (omega arith)

  omission_falls : (i : ℕ) (t : Stage) (o : Option (List ℕ)) → nth f i ≡ o → (omission_turn f n i o).next ≡ Some t → left t < left (omitting i)
  omission_falls i t None h q = absurd (none_some q)
  omission_falls i t (Some m) h q = let b = nth_below f i m h in to left (left (omitting i)) (omitting (suc i)) t q (omega arith)

  pub falls : (s t : Stage) → (turn_at f n s).next ≡ Some t → left t < left s
  falls titled t h = to left (left titled) typed t h (omega arith)
  falls typed t h = to left (left typed) (argued 0 0) t h (omega arith)
  falls (argued e i) t h = argument_falls e i t (nth (head_in n).entries e) refl h
  falls (numbered e i) t h = to left (left (numbered e i)) (argued (suc e) (suc i)) t h (omega arith)
  falls collected t h = to left (left collected) left_over t h (omega arith)
  falls left_over t h = to left (left left_over) (owned 0) t h (omega arith)
  falls (owned e) t h = property_falls e t (nth (head_in n).entries e) refl h
  falls (owned_type e) t h = to left (left (owned_type e)) (owned_plain e) t h (omega arith)
  falls (owned_plain e) t h = to left (left (owned_plain e)) (owned (suc e)) t h (omega arith)
  falls (grouped j) t h = group_falls j t (nth (children n) j) refl h
  falls (omitting i) t h = omission_falls i t (nth f i) refl h
