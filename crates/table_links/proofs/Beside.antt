-- What is linked at a row that is given with the one behind those below it. Assumes nothing.
use Rattle.std.proofs.Common.{◌≡◌, ℕ, ◌+◌, ◌<◌, [], ◌∷◌, ◌++◌, List, Some, Option, subst, sym}
use Rattle.tree.specs.declared.handle.NodeHandle.{NodeHandle}
use Rattle.index.specs.declared.keyed.Keyed.{Keyed}
use Rattle.index.specs.declared.link.NodeLink.{NodeLink}
use Rattle.layout.specs.Rows.{Tables}
use Rattle.layout.specs.Tables.{next}
use Rattle.layout.proofs.Filling.{node_number, row_link, Fills, Whole, Parts, parts_of, fills_on}

module _ (t : Tables) (to i at : ℕ) (is : i ≡ at) (lt : i < to) where
  pub parts_at : Whole t at to → Parts t i to
  parts_at w = parts_of t i to lt (subst (λ n. Whole t n to) (sym is) w)

  pub filled : (end left : ℕ) (p : Option NodeHandle) (xs one two ys : List (Keyed NodeLink)) → end ≡ next t i → left ≡ end → one ≡ xs ++ row_link t i to p ∷ []
      → Fills t (i + 1) end (Some (node_number i)) one two → Fills t left to p two ys → Fills t at to p xs ys
  filled end left p xs one two ys behind same pushed below on =
      subst (λ n. Fills t n to p xs ys) is
      (fills_on t i to p xs one two ys lt pushed (subst (λ n. Fills t (i + 1) n (Some (node_number i)) one two) behind below) (subst (λ n. Fills t n to p two ys) behind (subst (λ n. Fills t n to p two ys) same on)))
