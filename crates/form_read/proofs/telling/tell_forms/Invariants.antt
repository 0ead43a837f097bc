use Rattle.std.proofs.Common.{List, [], length}
use Rattle.records.specs.Read.{place_of}
use Rattle.forms.specs.Forms.{Form}
use Rattle.form_format.specs.Reading.{filled, form}
use Rattle.form_format.proofs.Going.{Going}
use Rattle.form_read.proofs.telling.tell_forms.Given as goal

-- what was told, with the forms from rest on, comes to all
abbrev pub invariant-loop-before : goal.invariant-loop-before
invariant-loop-before g l =
    g.S.FormSink.told l.initial.sink [] []
    → (fs : List Form) × g.S.FormSink.told l.sink fs []
    × Going form (filled form (length l.start.bytes.now) 0 (place_of l.start)) fs l._before (place_of l.rest)
