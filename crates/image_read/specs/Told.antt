-- What a sink was told of an image. Assumes nothing.
use Rattle.std.specs.Prelude.{◌≡◌, ℕ, List, None, Ok, Err, Option, Result}
use Rattle.tree.specs.declared.handle.NodeHandle.{NodeHandle}
use Rattle.tree.specs.Outcome.{over}
use Rattle.index.specs.declared.keyed.Keyed.{Keyed}
use Rattle.index.specs.declared.link.NodeLink.{NodeLink}
use Rattle.index.specs.declared.link.EntryLink.{EntryLink}
use Rattle.image_format.specs.Reading.{Place, image}
use Rattle.image_format.proofs.Linking.{Both, onto, Fills, FillsBlock, FillsEntries}
use Rattle.records.specs.declared.cursor.Cursor.{Cursor}
use Rattle.records.specs.declared.stop.Stop.{Stop}
use Rattle.records.specs.declared.stop.Stop.TheVariants.{Fault, Sink}
use Rattle.records.specs.Read.{place_of}

-- what a sink was told, and the type of its errors
module _ (told : List (Keyed NodeLink) → List (Keyed EntryLink) → Type 0) {E : Type 0} where
  -- of the entries at p, in the node h, behind the links ns and es
  abbrev pub ToldEntries : NodeHandle → List (Keyed NodeLink) → List (Keyed EntryLink) → Place → Result Cursor (Stop E) → Type 0
  ToldEntries h ns es p (Ok q) = (vs : List (Keyed EntryLink)) × FillsEntries h es p (Ok (vs, place_of q)) × told ns vs
  ToldEntries h ns es p (Err (Fault c)) = FillsEntries h es p (Err c)
  ToldEntries h ns es p (Err (Sink e)) = Unit {0}

  -- of the nodes of nesting d at p, which parent holds, behind the links x
  abbrev pub ToldNodes : Option NodeHandle → Both → ℕ → Place → Result (Unit {0}) (Stop E) → Type 0
  ToldNodes parent x d p (Ok t) = (y : Both) × Fills parent x d p (Ok y) × told y.0 y.1
  ToldNodes parent x d p (Err (Fault c)) = Fills parent x d p (Err c)
  ToldNodes parent x d p (Err (Sink e)) = Unit {0}

  -- of the block that may stand at p
  abbrev pub ToldBlock : Option NodeHandle → Both → ℕ → Place → Result (Unit {0}) (Stop E) → Type 0
  ToldBlock parent x d p (Ok t) = (y : Both) × FillsBlock parent x d p (Ok y) × told y.0 y.1
  ToldBlock parent x d p (Err (Fault c)) = FillsBlock parent x d p (Err c)
  ToldBlock parent x d p (Err (Sink e)) = Unit {0}

  -- of the whole image
  abbrev pub ToldImage : Both → List ℕ → Result (Unit {0}) (Stop E) → Type 0
  ToldImage x bs (Ok t) = (y : Both) × (Ok y ≡ over (onto None x) (image bs)) × told y.0 y.1
  ToldImage x bs (Err (Fault c)) = Err c ≡ over (onto None x) (image bs)
  ToldImage x bs (Err (Sink e)) = Unit {0}
