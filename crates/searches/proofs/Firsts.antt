-- The first of children and of siblings. Assumes nothing.
use Rattle.std.proofs.Common.{◌≡◌, [], ◌∷◌, ◌++◌, Some, None, Option, sym, refl, ap, ◌∙◌}
use Rattle.tree.specs.declared.handle.NodeHandle.{NodeHandle}
use Rattle.tree.specs.Document as document
use Rattle.tree.specs.Document.{Block, no_block, Nodes, block_in, within, listed}
use Rattle.tree.specs.Going.{Spot, found, then, first, first_in}
use Rattle.tree.specs.Limits.{Lawful}
use Rattle.spots.specs.Rows.{row, earlier, inner_of, inner, held_by}
use Rattle.spots.proofs.Finding.{none_some}
use Rattle.spots.proofs.Rows.{row_inner, earlier_inner, row_top, earlier_top, whole}
use Rattle.searches.specs.Searches.{first_of_siblings}

pub child_there : (o : Option Spot) (r : Option NodeHandle) → Some r ≡ then o (λ s. first_in (block_in s.self)) → r ≡ first (inner_of o)
child_there None r e = none_some r (sym e)
child_there (Some s) r e = go (block_in s.self) e
  where
    go : (b : Block) → Some r ≡ first_in b → r ≡ first (listed (within b))
    go no_block q = none_some r (sym q)
    go (document.block ns) q = cc

pub child_absent : (o : Option Spot) → None ≡ then o (λ s. first_in (block_in s.self)) → None ≡ first (inner_of o)
child_absent None e = refl
child_absent (Some s) e = go (block_in s.self) e
  where
    go : (b : Block) → None ≡ first_in b → None ≡ first (listed (within b))
    go no_block q = refl
    go (document.block ns) q = none_some (first (listed ns)) q

module _ (d : Nodes) (law : Lawful d) where
  -- the row that the first child begins, before which none stands
  pub row_child : (h : NodeHandle) → row d (first (inner d h)) ≡ inner d h
  row_child h = go (found d h) refl
    where
      go : (o : Option Spot) → found d h ≡ o → row d (first (inner_of o)) ≡ inner_of o
      go None q = refl
      go (Some s) q = row_inner d law h s q

  pub earlier_child : (h : NodeHandle) → earlier d (first (inner d h)) ≡ []
  earlier_child h = go (found d h) refl
    where
      go : (o : Option Spot) → found d h ≡ o → earlier d (first (inner_of o)) ≡ []
      go None q = refl
      go (Some s) q = earlier_inner d law h s q

  -- the same of the nodes that a node holds, or the document
  pub row_held : (p : Option NodeHandle) → row d (first (held_by d p)) ≡ held_by d p
  row_held None = row_top d law
  row_held (Some h) = row_child h

  pub earlier_held : (p : Option NodeHandle) → earlier d (first (held_by d p)) ≡ []
  earlier_held None = earlier_top d law
  earlier_held (Some h) = earlier_child h

  -- the row that the first sibling begins
  pub row_siblings : (h : NodeHandle) (s : Spot) → found d h ≡ Some s → row d (first_of_siblings d h) ≡ s.before ++ s.self ∷ s.after
  row_siblings h s e = ap (λ o. row d (then o (λ t. first (held_by d t.parent)))) e ∙ row_held s.parent ∙ whole d law h s e

  pub earlier_siblings : (h : NodeHandle) (s : Spot) → found d h ≡ Some s → earlier d (first_of_siblings d h) ≡ []
  earlier_siblings h s e = ap (λ o. earlier d (then o (λ t. first (held_by d t.parent)))) e ∙ earlier_held s.parent
