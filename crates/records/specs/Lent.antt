-- What the code's records say. Assumes nothing.
use Rattle.std.specs.Prelude.{ℕ, List}
use Rattle.records.specs.Places.{Place, Part, placed}
use Rattle.records.specs.Records as records
use Rattle.records.specs.declared.cut.Mark.{Mark}
use Rattle.records.specs.declared.cut.Cut.{Cut}

abbrev pub mark_of : Mark → records.Mark
mark_of m = record { size = m.size; kind = m.kind; rest = m.rest.now }

abbrev pub cut_of : Cut → records.Cut
cut_of c = record { kind = c.kind; body = c.body.now; rest = c.rest.now }

-- where bytes stand
abbrev pub place_at : ℕ → List ℕ → Place
place_at at bs = record { at = at; bytes = bs }

-- a record that was cut off bytes, with where it stands
abbrev pub part_from : ℕ → List ℕ → Cut → Part
part_from at bs c = placed (place_at at bs) (cut_of c)
