-- Looking a handle up in the links of a document is finding it in the document. Assumes nothing.
use Rattle.std.proofs.Common.{◌≡◌, ℕ, Bool, true, false, cond, eqb, List, [], ◌∷◌, ◌++◌, Some, Option, refl, ap}
use Rattle.std.specs.Option.{option_map}
use Rattle.tree.specs.Document.{Nodes, nil, cons, handle_in}
use Rattle.tree.specs.Going.{Spot, EntrySpot, spots, find_spot, find_entry, first_node}
use Rattle.tree.specs.Limits.{node_numbers, entry_numbers}
use Rattle.index.specs.Keys.{keys, first_key, lookup}
use Rattle.index.specs.Links.{link, entry_link, links, entry_links, links_of}

mapped_cond : {X Y : Type 0} (f : X → Y) (b : Bool) (x : X) (o : Option X) (q : Option Y) → q ≡ option_map f o → cond b (Some (f x)) q ≡ option_map f (cond b (Some x) o)
mapped_cond f true x o q e = refl
mapped_cond f false x o q e = e

pub linked : (ss : List Spot) (n : ℕ) → lookup (links ss) n ≡ option_map link (find_spot ss n)
linked [] n = refl
linked (s ∷ ss) n = mapped_cond link (eqb (handle_in s.self).number n) s (find_spot ss n) (lookup (links ss) n) (linked ss n)

pub entry_linked : (ss : List EntrySpot) (n : ℕ) → lookup (entry_links ss) n ≡ option_map entry_link (find_entry ss n)
entry_linked [] n = refl
entry_linked (s ∷ ss) n = mapped_cond entry_link (eqb s.self.handle.number n) s (find_entry ss n) (lookup (entry_links ss) n) (entry_linked ss n)

pub link_keys : (ss : List Spot) → keys (links ss) ≡ node_numbers ss
link_keys [] = refl
link_keys (s ∷ ss) = ap (λ ks. (handle_in s.self).number ∷ ks) (link_keys ss)

pub entry_link_keys : (ss : List EntrySpot) → keys (entry_links ss) ≡ entry_numbers ss
entry_link_keys [] = refl
entry_link_keys (s ∷ ss) = ap (λ ks. s.self.handle.number ∷ ks) (entry_link_keys ss)

-- the first link is the first node's
pub first_linked : (doc : Nodes) → option_map (λ n. record { number = n }) (first_key (links_of doc)) ≡ first_node doc
unfolding spots
first_linked nil = refl
first_linked (cons n ns) = refl

pub links_append : (xs ys : List Spot) → links (xs ++ ys) ≡ links xs ++ links ys
links_append [] ys = refl
links_append (x ∷ xs) ys = ap (λ l. record { key = (handle_in x.self).number; value = link x } ∷ l) (links_append xs ys)

pub entry_links_append : (xs ys : List EntrySpot) → entry_links (xs ++ ys) ≡ entry_links xs ++ entry_links ys
entry_links_append [] ys = refl
entry_links_append (x ∷ xs) ys = ap (λ l. record { key = x.self.handle.number; value = entry_link x } ∷ l) (entry_links_append xs ys)
