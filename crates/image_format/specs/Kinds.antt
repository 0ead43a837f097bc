-- The numbers of the kinds of records. Assumes nothing.
use Rattle.std.specs.Prelude.{◌≡◌, ℕ, ◌<◌, ◌⊎◌, Result, MatchResult}
use Rattle.image_format.specs.declared.kind.Kind.{Kind}
use Rattle.image_format.specs.declared.kind.Kind.TheVariants as kind
use Rattle.image_format.specs.declared.kind.UnknownKind.{UnknownKind}

abbrev pub code_of : Kind → ℕ
code_of kind.Document = 1
code_of kind.Node = 2
code_of kind.Name = 3
code_of kind.«Type» = 4
code_of kind.Argument = 5
code_of kind.Property = 6
code_of kind.«String» = 7
code_of kind.Integer = 8
code_of kind.Float = 9
code_of kind.«Bool» = 10
code_of kind.Null = 11

-- the result is the kind with this number, or an error with a number that no kind has
abbrev pub Decodes : ℕ → Result Kind UnknownKind → Type 0
Decodes n r = MatchResult r (λ k. code_of k ≡ n) (λ e. (e.0 ≡ n) × ((n ≡ 0) ⊎ (11 < n)))
