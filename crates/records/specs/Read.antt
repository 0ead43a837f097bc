-- What cursors and the records read at them stand for. Assumes nothing.
use Rattle.std.specs.Prelude.{◌+◌, ◌≤◌, length}
use Rattle.records.specs.Places.{Place, Part}
use Rattle.records.specs.declared.cursor.Cursor.{Cursor}
use Rattle.records.specs.declared.cursor.Record.{Record}

abbrev pub place_of : Cursor → Place
place_of p = record { at = p.at; bytes = p.bytes.now }

abbrev pub part_read : Record → Part
part_read r = record { kind = r.kind; body = place_of r.body; after = place_of r.after }

-- body and rest of r, and a head, are no longer than what stands at p
abbrev pub Inside : Cursor → Record → Type 0
Inside p r = length r.body.bytes.now + length r.after.bytes.now + 6 ≤ length p.bytes.now
