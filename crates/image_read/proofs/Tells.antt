-- How telling stops. Assumes nothing.
use Rattle.std.proofs.Common.{◌≡◌, ℕ, ◌+◌, ◌<◌, ◌≤◌, false, eqb, List, [], ◌∷◌, ◌++◌, length, Some, None, Ok, Err, Option, subst, arith}
use Rattle.tree.specs.declared.handle.NodeHandle.{NodeHandle}
use Rattle.tree.specs.Outcome.{over}
use Rattle.index.specs.declared.keyed.Keyed.{Keyed}
use Rattle.index.specs.declared.link.NodeLink.{NodeLink}
use Rattle.index.specs.declared.link.EntryLink.{EntryLink}
use Rattle.records.specs.declared.fault.RecordFault.{RecordFault}
use Rattle.image_format.specs.Reading.{Place, Part, Read, part_of, fore, start, image}
use Rattle.image_format.proofs.Passing.{Aside, aside}
use Rattle.image_format.proofs.Runs.{stop, go}
use Rattle.image_format.proofs.Linking.{Both, onto, Fills, FillsBlock, FillsEntries, link_at, filled_entries, filled_block, filled_on, block_filled, image_filled}
use Rattle.records.specs.declared.stop.Stop.{Stop}
use Rattle.records.specs.declared.stop.Stop.TheVariants.{Fault, Sink}
use Rattle.image_read.specs.Told.{ToldEntries, ToldNodes, ToldBlock, ToldImage}

-- what is filled from p on behind y is what is filled from q on behind x
module _ (parent : Option NodeHandle) (x y : Both) (d : ℕ) (p q : Place) (on : (r : Read Both) → Fills parent y d p r → Fills parent x d q r) (isnt : false ≡ eqb (length p.bytes) 0) (a : Aside) (h : Ok a ≡ over aside (fore d p)) where
  module _ (vs : List (Keyed EntryLink)) (rest : Place) (k : FillsEntries (record { number = p.at }) y.1 a.rest (Ok (vs, rest))) (less : length rest.bytes + 6 ≤ length p.bytes) where
    pub nodes_on : (l : Keyed NodeLink) (z : Both) → l ≡ link_at parent p.at a.rest rest a.after → length a.after.bytes < length p.bytes → FillsBlock (Some (record { number = p.at })) (y.0 ++ l ∷ [], vs) (d + 1) rest (Ok z)
        → (r : Read Both) → Fills parent z d a.after r → Fills parent x d q r
    nodes_on l z same lesser t r more = on r (filled_on parent y d p isnt a h vs rest k z r less lesser (subst (λ w. FillsBlock (Some (record { number = p.at })) (y.0 ++ w ∷ [], vs) (d + 1) rest (Ok z)) same t) more)

module _ (told : List (Keyed NodeLink) → List (Keyed EntryLink) → Type 0) {E : Type 0} where
  pub block_stopped : (e : Stop E) (parent : Option NodeHandle) (x : Both) (d : ℕ) (p : Place) (r : Part) → false ≡ eqb (length p.bytes) 0 → Ok r ≡ part_of 1 p → length r.body.bytes + 6 ≤ length p.bytes
      → ToldNodes told parent x d r.body (Err e) → ToldBlock told parent x d p (Err e)
  block_stopped (Fault c) parent x d p r isnt h less k = block_filled parent x d p (Err c) isnt (λ f l. go _ _ r _ h (stop _ _ c (k f (omega arith))))
  block_stopped (Sink k0) parent x d p r isnt h less k = k

  -- what is filled from p on behind y is what is filled from q on behind x
  module _ (parent : Option NodeHandle) (x y : Both) (d : ℕ) (p q : Place) (on : (r : Read Both) → Fills parent y d p r → Fills parent x d q r) (isnt : false ≡ eqb (length p.bytes) 0) (a : Aside) (h : Ok a ≡ over aside (fore d p)) where
    pub entries_stopped : (e : Stop E) (ns : List (Keyed NodeLink)) → ToldEntries told (record { number = p.at }) ns y.1 a.rest (Err e) → ToldNodes told parent x d q (Err e)
    entries_stopped (Fault c) ns k = on (Err c) (filled_entries parent y d p isnt a h c y.1 k)
    entries_stopped (Sink k0) ns k = k

    module _ (vs : List (Keyed EntryLink)) (rest : Place) (k : FillsEntries (record { number = p.at }) y.1 a.rest (Ok (vs, rest))) (less : length rest.bytes + 6 ≤ length p.bytes) where
      pub nodes_stopped : (e : Stop E) (l : Keyed NodeLink) → l ≡ link_at parent p.at a.rest rest a.after → ToldBlock told (Some (record { number = p.at })) (y.0 ++ l ∷ [], vs) (d + 1) rest (Err e) → ToldNodes told parent x d q (Err e)
      nodes_stopped (Fault c) l same t = on (Err c) (filled_block parent y d p isnt a h vs rest k c less (subst (λ z. FillsBlock (Some (record { number = p.at })) (y.0 ++ z ∷ [], vs) (d + 1) rest (Err c)) same t))
      nodes_stopped (Sink k0) l same t = t

  pub image_stopped : (e : Stop E) (bs : List ℕ) (x : Both) (r : Part) → length bs ≤ 1048576 → Ok r ≡ part_of 1 (start bs) → length r.body.bytes ≤ length bs → ToldNodes told None x 1 r.body (Err e) → ToldImage told x bs (Err e)
  image_stopped (Fault c) bs x r small h less k = image_filled bs x (Err c) small (go _ _ r _ h (stop _ _ c (k (length bs) less)))
  image_stopped (Sink k0) bs x r small h less k = k

  -- the image's fault, where telling stopped at one
  pub at_fault : (x : Both) (bs : List ℕ) (s : Stop E) (c : RecordFault) → s ≡ Fault c → ToldImage told x bs (Err s) → Err c ≡ over (onto None x) (image bs)
  at_fault x bs s c is t = subst (λ z. ToldImage told x bs (Err z)) is t
