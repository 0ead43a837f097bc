-- What the code's places stand for. Assumes nothing.
use Rattle.std.specs.Prelude.{ℕ, ◌+◌, ◌≤◌, length}
use Rattle.records.specs.Read.{place_of}
use Rattle.records.specs.declared.cursor.Cursor.{Cursor}
use Rattle.image_format.proofs.Passing.{Aside}
use Rattle.image_read.specs.declared.fore.Fore.{Fore}

abbrev pub aside_of : Fore → Aside
aside_of x = record { rest = place_of x.rest; after = place_of x.after }

-- no more bytes stand at q than at p
abbrev pub Within : Cursor → Cursor → Type 0
Within p q = length q.bytes.now ≤ length p.bytes.now

-- x are parts of the node of nesting d at p
pub record Forward (d : ℕ) (p : Cursor) (x : Fore) : Type 0 where
  pub shallow : d ≤ 32
  pub sizes : length x.rest.bytes.now + length x.after.bytes.now + 6 ≤ length p.bytes.now
