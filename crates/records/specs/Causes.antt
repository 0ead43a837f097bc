-- Refusals as text. Assumes nothing.
use Rattle.std.specs.Prelude.{ℕ, List, ◌++◌, codes}
use Rattle.std.specs.Fmt.{decimal}
use Rattle.records.specs.declared.fault.Cause.{Cause}
use Rattle.records.specs.declared.fault.Cause.TheVariants as cause
use Rattle.records.specs.declared.fault.RecordFault.{RecordFault}

abbrev pub cause_text : Cause → List ℕ
cause_text cause.Size = codes "size"
cause_text cause.Missing = codes "missing"
cause_text cause.Length = codes "length"
cause_text cause.Kind = codes "kind"
cause_text cause.Nesting = codes "nesting"
cause_text cause.Body = codes "body"
cause_text cause.After = codes "after"

abbrev pub fault_text : RecordFault → List ℕ
fault_text f = codes "place " ++ decimal f.place ++ codes ", cause " ++ cause_text f.cause
