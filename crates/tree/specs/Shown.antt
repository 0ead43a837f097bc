-- What is printed of a tree. Assumes nothing.
use Rattle.std.specs.Prelude.{ℕ, List, ◌++◌, codes}
use Rattle.std.specs.Fmt.{decimal}
use Rattle.tree.specs.declared.span.Span.{Span}

-- the offset and the count of bytes, with a plus sign between
abbrev pub span_text : Span → List ℕ
span_text s = decimal s.start ++ codes "+" ++ decimal s.length
