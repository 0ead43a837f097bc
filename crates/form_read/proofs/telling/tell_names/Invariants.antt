use Rattle.std.proofs.Common.{List, ◌++◌, length}
use Rattle.records.specs.Read.{place_of}
use Rattle.forms.specs.Forms.{Form}
use Rattle.form_format.specs.Reading.{filled, name}
use Rattle.form_format.proofs.Going.{Going}
use Rattle.form_read.proofs.telling.tell_names.Given as goal

-- what was told, with the names from rest on, comes to all
abbrev pub invariant-loop-before : goal.invariant-loop-before
invariant-loop-before g l =
    (fs : List Form) (ms : Form) → g.S.FormSink.told l.initial.sink fs ms
    → (xs : Form) × g.S.FormSink.told l.sink fs (ms ++ xs)
    × Going name (filled name (length l.start.bytes.now) 0 (place_of l.start)) xs l._before (place_of l.rest)
