-- Node rows that stand beside one another. Assumes nothing.
use Rattle.std.specs.Prelude.{◌≡◌, ℕ, ◌+◌, ◌<◌, ◌≤◌, min, length, Some, None, Option, slice_index_or}
use Rattle.layout.specs.Tables.{blank}
use Rattle.table_check.specs.declared.siblings.Siblings.{Siblings}

-- s gives a row and the one behind those below it, goes on from there, and is u then
pub record Gives (s : Siblings) (given : ℕ × ℕ) (u : Siblings) : Type 0 where
  pub within : s.at < s.to
  pub there : s.at < length s.rows.now
  pub row : given.0 ≡ s.at
  pub end : given.1 ≡ s.at + 1 + (slice_index_or s.rows.now s.at blank).below
  pub at : u.at ≡ given.1
  pub rows : u.rows.now ≡ s.rows.now
  pub to : u.to ≡ s.to

abbrev pub sibling_steps : Siblings → Option (ℕ × ℕ) → Siblings → Type 0
sibling_steps s None u = min s.to (length s.rows.now) ≤ s.at
sibling_steps s (Some given) u = Gives s given u
