-- Keys, and the bytes that they spell. Assumes nothing.
use Rattle.std.specs.Prelude.{ℕ, Bool, true, not, ◌&&◌, List, [], ◌∷◌, ◌++◌, codes, decimal, ◌==◌}
use Rattle.std.specs.Str.{bytes_eq}

-- the kinds of keys, in the order in which they come in a list
pub data Kind : Type 0 where
  of_name of_type of_argument_type of_argument of_args of_rest : Kind
  of_at_property of_at_property_type of_property of_group of_omission : Kind

-- A key is its kind, its number and its part. The number is an argument's, or an omission's position in the form; the part is a name: a
-- property's, a child's, or the one at that position. What a kind does not need is 0 or empty. Keys that differ may be spelled alike.
pub record Key : Type 0 where
  pub kind : Kind
  pub number : ℕ
  pub part : List ℕ

abbrev simple : Kind → Key
simple k = record { kind = k; number = 0; part = [] }

abbrev counted : Kind → ℕ → Key
counted k i = record { kind = k; number = i; part = [] }

abbrev parted : Kind → List ℕ → Key
parted k p = record { kind = k; number = 0; part = p }

abbrev pub name : Key
name = simple of_name

abbrev pub type : Key
type = simple of_type

abbrev pub argument_type : ℕ → Key
argument_type i = counted of_argument_type i

abbrev pub argument : ℕ → Key
argument i = counted of_argument i

abbrev pub args : Key
args = simple of_args

abbrev pub rest : Key
rest = simple of_rest

abbrev pub at_property : List ℕ → Key
at_property p = parted of_at_property p

abbrev pub at_property_type : List ℕ → Key
at_property_type p = parted of_at_property_type p

abbrev pub property : List ℕ → Key
property p = parted of_property p

abbrev pub group : List ℕ → Key
group m = parted of_group m

abbrev pub omitted : ℕ → List ℕ → Key
omitted i m = record { kind = of_omission; number = i; part = m }

abbrev spells : Kind → ℕ → List ℕ → List ℕ
spells of_name i p = codes "#name"
spells of_type i p = codes "#type"
spells of_argument_type i p = codes "#" ++ (decimal i ++ codes "#type")
spells of_argument i p = codes "#" ++ decimal i
spells of_args i p = codes "#args"
spells of_rest i p = codes "#rest"
spells of_at_property i p = codes "#@" ++ p
spells of_at_property_type i p = codes "#@" ++ (p ++ codes "#type")
spells of_property i p = p
spells of_group i p = p
spells of_omission i p = p

-- the bytes of a key; a number is written in decimal, without leading zeros
abbrev pub spelled : Key → List ℕ
spelled k = spells k.kind k.number k.part

-- a name that does not begin with '#'
abbrev pub plain : List ℕ → Bool
plain [] = true
plain (c ∷ cs) = not (c == 35)

abbrev pub rank : Kind → ℕ
rank of_name = 0
rank of_type = 1
rank of_argument_type = 2
rank of_argument = 3
rank of_args = 4
rank of_rest = 5
rank of_at_property = 6
rank of_at_property_type = 7
rank of_property = 8
rank of_group = 9
rank of_omission = 10

-- whether two keys are one
abbrev pub same_key : Key → Key → Bool
same_key a b = rank a.kind == rank b.kind && (a.number == b.number && bytes_eq a.part b.part)
