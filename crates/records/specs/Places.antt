-- Where reading stands in the bytes of a format, and the records that are found there. Assumes nothing.
use Rattle.std.specs.Prelude.{ℕ, ◌+◌, cond, List, length, Ok, Err, Result, ◌==◌}
use Rattle.tree.specs.Outcome.{and_then, over}
use Rattle.records.specs.Records.{next_kind, Cut, cut}
use Rattle.records.specs.declared.fault.Cause.{Cause}
use Rattle.records.specs.declared.fault.Cause.TheVariants.{Kind}
use Rattle.records.specs.declared.fault.RecordFault.{RecordFault}

-- where reading stands: an offset, and the bytes from there to the end of the record that holds them
pub record Place : Type 0 where
  pub at : ℕ
  pub bytes : List ℕ

-- a record that was found: its kind, its body, and what follows it in its holder
pub record Part : Type 0 where
  pub kind : ℕ
  pub body : Place
  pub after : Place

-- something that was read, or the fault at which reading stopped
abbrev pub Read : Type 0 → Type 0
Read X = Result X RecordFault

abbrev pub fault : {X : Type 0} → Place → Cause → Read X
fault p c = Err (record { place = p.at; cause = c })

-- a cause is a fault of the place
abbrev pub located : {X : Type 0} → Place → Result X Cause → Read X
located p (Ok x) = Ok x
located p (Err c) = fault p c

-- the kind of the record that is to come, or 0
abbrev pub next : Place → ℕ
next p = next_kind p.bytes

abbrev pub placed : Place → Cut → Part
placed p c = record {
  kind = c.kind;
  body = record { at = p.at + 6; bytes = c.body };
  after = record { at = p.at + 6 + length c.body; bytes = c.rest };
}

-- the record at p, whatever its kind
unfoldable pub part : Place → Read Part
part p = over (placed p) (located p (cut p.bytes))

unfoldable pub part_of : ℕ → Place → Read Part
part_of k p = and_then (part p) (λ r. cond (r.kind == k) (Ok r) (fault p Kind))

-- the whole input
abbrev pub start : List ℕ → Place
start bs = record { at = 0; bytes = bs }
