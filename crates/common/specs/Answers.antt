-- The answers of checks as text. Assumes nothing.
use Rattle.std.specs.Prelude.{ℕ, List, ◌++◌, codes, Ok, Err, Result}
use Rattle.std.specs.Fmt.{decimal}
use Rattle.records.specs.Causes.{cause_text}
use Rattle.records.specs.declared.fault.RecordFault.{RecordFault}

-- two counts, or the place and the cause of the refusal
abbrev pub answer_shown : Result (ℕ × ℕ) RecordFault → List ℕ
answer_shown (Ok c) = codes "ok " ++ decimal c.0 ++ codes " " ++ decimal c.1
answer_shown (Err f) = codes "refused " ++ decimal f.place ++ codes " " ++ cause_text f.cause
