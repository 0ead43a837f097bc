-- What the bytes at a handle say of the document that is made of an image. Assumes nothing.
use Rattle.std.proofs.Common.{◌≡◌, ℕ, zero, suc, ◌+◌, ◌-◌, ◌*◌, ◌^◌, ◌≤◌, Bool, true, false, ltb, List, [], ◌∷◌, ◌++◌, length, get_or, take, drop, Some, Ok, Err, Option, sym, refl, ap, ◌∙◌, subst, arith, w64, to_z}
use Rattle.std.proofs.lemmas.List.{take_all, length-drop}
use Rattle.std.specs.List.{AllByRecursion}
use Rattle.std.proofs.ByRecursion.{All-append}
use Rattle.tree.specs.declared.handle.NodeHandle.{NodeHandle}
use Rattle.tree.specs.declared.handle.EntryHandle.{EntryHandle}
use Rattle.tree.specs.Document.{Entry, Nodes, handle_in, head_in}
use Rattle.tree.specs.Going.{Spot, EntrySpot, spots, all_spots, all_entries, entries_of, entries_from, found, found_entry}
use Rattle.tree.specs.Limits.{Lawful}
use Rattle.tree.proofs.Standing.{At, drops, ends}
use Rattle.index.proofs.Found.{none_some, spot_found, entry_found}
use Rattle.records.specs.Numbers.{Bytes, number}
use Rattle.image_format.specs.Signed.{signed}
use Rattle.image_format.specs.Reading.{Read, image, held, document_in}
use Rattle.image_format.specs.Writing.{entry_of, node_of}
use Rattle.image_format.proofs.Accepted.{accepted}
use Rattle.image_format.proofs.Standing.{climbs_rising}
use Rattle.image_format.proofs.Within.{EntryStands, Stands, all_stand, lawful}
use Rattle.image_format.proofs.Payload.{NodeSays, EntrySays, node_says, entry_says}

-- o is a node, of which the bytes xs speak
pub record NodeTold (o : Option Spot) (xs : List ℕ) : Type 0 where
  pub spot : Spot
  pub is : o ≡ Some spot
  pub says : NodeSays xs (head_in spot.self)

pub record EntryTold (o : Option EntrySpot) (xs : List ℕ) : Type 0 where
  pub spot : EntrySpot
  pub is : o ≡ Some spot
  pub says : EntrySays xs spot.self

-- what stands in bytes begins what is left from there on
begins : (bs : List ℕ) (at : ℕ) (xs : List ℕ) (a : At bs at xs) → drop at bs ≡ xs ++ a.behind
begins bs at xs a = ap (λ n. drop n bs) (sym a.long) ∙ ap (drop (length a.before)) a.whole ∙ drops a.before (xs ++ a.behind)

pub node_told : (bs : List ℕ) → Bytes bs → (n : NodeHandle) (s : Spot) → found (document_in bs) n ≡ Some s → (n.number ≤ length bs) × NodeTold (found (document_in bs) n) (drop n.number bs)
unfolding spots
node_told bs b n s e = go (image bs) refl e
  where
    go : (o : Read Nodes) → image bs ≡ o → found (held o) n ≡ Some s → (n.number ≤ length bs) × NodeTold (found (document_in bs) n) (drop n.number bs)
    go (Err x) is f = none_some s f
    go (Ok doc) is f =
        let x = accepted bs doc b is in
        let p = spot_found (Stands bs) (all_spots doc) n.number s (all_stand bs doc x) f in
        let place : At bs n.number (node_of s.self) = subst (λ k. At bs k (node_of s.self)) p.1 p.0.place in
        let l = ends bs n.number (node_of s.self) place in
        let short = x.short in (
          omega arith,
          record { spot = s; is = e; says = subst (λ w. NodeSays w (head_in s.self)) (sym (begins bs n.number (node_of s.self) place)) (node_says s.self place.behind p.0.fits (omega arith)) },
        )

entries_stand : (bs : List ℕ) (ss : List Spot) → AllByRecursion (Stands bs) ss → AllByRecursion (λ (s : EntrySpot). EntryStands bs s.self) (entries_of ss)
entries_stand bs [] h = tt
entries_stand bs (s ∷ ss) h = All-append (λ (s : EntrySpot). EntryStands bs s.self) (entries_from (handle_in s.self) (head_in s.self).entries) (entries_of ss) (from (handle_in s.self) (head_in s.self).entries h.0.entries) (entries_stand bs ss h.1)
  where
    from : (n : NodeHandle) (es : List Entry) → AllByRecursion (EntryStands bs) es → AllByRecursion (λ (s : EntrySpot). EntryStands bs s.self) (entries_from n es)
    from n [] k = tt
    from n (e ∷ es) k = (k.0, from n es k.1)

pub entry_told : (bs : List ℕ) → Bytes bs → (n : EntryHandle) (s : EntrySpot) → found_entry (document_in bs) n ≡ Some s → (n.number ≤ length bs) × EntryTold (found_entry (document_in bs) n) (drop n.number bs)
unfolding spots
entry_told bs b n s e = go (image bs) refl e
  where
    go : (o : Read Nodes) → image bs ≡ o → found_entry (held o) n ≡ Some s → (n.number ≤ length bs) × EntryTold (found_entry (document_in bs) n) (drop n.number bs)
    go (Err x) is f = none_some s f
    go (Ok doc) is f =
        let x = accepted bs doc b is in
        let p = entry_found (λ z. EntryStands bs z.self) (all_entries doc) n.number s (entries_stand bs (all_spots doc) (all_stand bs doc x)) f in
        let place : At bs n.number (entry_of s.self) = subst (λ k. At bs k (entry_of s.self)) p.1 p.0.place in
        let l = ends bs n.number (entry_of s.self) place in
        let short = x.short in (
          omega arith,
          record { spot = s; is = e; says = subst (λ w. EntrySays w s.self) (sym (begins bs n.number (entry_of s.self) place)) (entry_says s.self place.behind p.0.fits (omega arith)) },
        )

-- the document that is made of bytes keeps the limits
pub lawful_image : (bs : List ℕ) → Bytes bs → Lawful (document_in bs)
unfolding spots
lawful_image bs b = go (image bs) refl
  where
    go : (o : Read Nodes) → image bs ≡ o → Lawful (held o)
    go (Ok doc) is = lawful bs doc b (accepted bs doc b is)
    go (Err x) is = record { nodes_rise = climbs_rising 0 0 [] (omega arith); entries_rise = climbs_rising 0 0 [] (omega arith); nodes_fit = tt; entries_fit = tt }

-- four bytes, and eight, as a number
pub four : (bs : List ℕ) → 4 ≤ length bs → get_or bs 0 0 + get_or bs 1 0 * 256 + get_or bs 2 0 * 65536 + get_or bs 3 0 * 16777216 ≡ number (take 4 bs)
four [] l = absurd (omega arith)
four (a ∷ []) l = absurd (omega arith)
four (a ∷ b ∷ []) l = absurd (omega arith)
four (a ∷ b ∷ c ∷ []) l = absurd (omega arith)
four (a ∷ b ∷ c ∷ d ∷ xs) l = omega arith

pub eight : (bs : List ℕ) → 8 ≤ length bs → get_or bs 0 0 + get_or bs 1 0 * 256 + get_or bs 2 0 * 65536 + get_or bs 3 0 * 16777216 + get_or bs 4 0 * 4294967296 + get_or bs 5 0 * 1099511627776 + get_or bs 6 0 * 281474976710656 + get_or bs 7 0 * 72057594037927936 ≡ number (take 8 bs)
eight [] l = absurd (omega arith)
eight (a ∷ []) l = absurd (omega arith)
eight (a ∷ b ∷ []) l = absurd (omega arith)
eight (a ∷ b ∷ c ∷ []) l = absurd (omega arith)
eight (a ∷ b ∷ c ∷ d ∷ []) l = absurd (omega arith)
eight (a ∷ b ∷ c ∷ d ∷ e ∷ []) l = absurd (omega arith)
eight (a ∷ b ∷ c ∷ d ∷ e ∷ f ∷ []) l = absurd (omega arith)
eight (a ∷ b ∷ c ∷ d ∷ e ∷ f ∷ g ∷ []) l = absurd (omega arith)
eight (a ∷ b ∷ c ∷ d ∷ e ∷ f ∷ g ∷ h ∷ xs) l = omega arith

-- the signed reading of 64 bits
pub signs : (n : ℕ) → to_z w64 n ≡ signed n
signs n = go (ltb n (2 ^ 63)) refl
  where
    go : (b : Bool) → ltb n (2 ^ 63) ≡ b → to_z w64 n ≡ signed n
    go true e = rw e refl
    go false e = rw e refl

-- nothing is left behind the end
pub drop_past : {X : Type 0} (n : ℕ) (xs : List X) → length xs ≤ n → [] ≡ drop n xs
drop_past zero [] l = refl
drop_past (suc n) [] l = refl
drop_past zero (x ∷ xs) l = absurd (omega arith)
drop_past (suc n) (x ∷ xs) l = drop_past n xs (omega arith)

-- all from a place on
pub whole_rest : {X : Type 0} (n : ℕ) (xs : List X) → take (length xs - n) (drop n xs) ≡ drop n xs
whole_rest n xs = let l = length-drop n xs in take_all (length xs - n) (drop n xs) (omega arith)
