-- Which numbers a document may hold. Assumes nothing.
use Rattle.std.specs.Prelude.{ℕ, ◌^◌, ◌<◌, List, length, ℤ, pos, negsuc, ◌+ℤ◌, ◌*ℤ◌, slice_index}
use Rattle.std.specs.List.{AllByRecursion}
use Rattle.tree.specs.declared.span.Span.{Span}
use Rattle.tree.specs.declared.value.Integer.{Integer}

-- the number that an integer's halves mean
abbrev pub integer_value : Integer → ℤ
integer_value n = (n.high *ℤ pos (2 ^ 64)) +ℤ pos n.low

-- from -2^63 up to 2^63 - 1; negsuc 0 is -1
abbrev pub Signed : ℤ → Type 0
Signed (pos n) = n < 2 ^ 63
Signed (negsuc n) = n < 2 ^ 63

pub record IntegerFits (n : Integer) : Type 0 where
  pub high : Signed n.high
  pub low : n.low < 2 ^ 64

pub record SpanFits (s : Span) : Type 0 where
  pub start : s.start < 2 ^ 32
  pub length : s.length < 2 ^ 32

-- the bytes that may stand in a name, a type or a string: any
abbrev pub Allowed : List ℕ → Type 0
Allowed bytes = AllByRecursion (λ b. b < 256) bytes

pub record TextFits (bytes : List ℕ) : Type 0 where
  pub allowed : Allowed bytes
  pub length : length bytes < 2 ^ 32

-- each number is above all before it, so no two are equal
abbrev pub Rising : List ℕ → Type 0
Rising ns = (i j : ℕ) → i < j → j < length ns → slice_index ns i < slice_index ns j
