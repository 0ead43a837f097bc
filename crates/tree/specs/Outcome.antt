-- Results, one after the other. Assumes nothing.
use Rattle.std.specs.Prelude.{Ok, Err, Result}

-- f of what the first holds, or its error
abbrev pub and_then : {X Y E : Type 0} → Result X E → (X → Result Y E) → Result Y E
and_then (Ok x) f = f x
and_then (Err e) f = Err e

abbrev pub over : {X Y E : Type 0} → (X → Y) → Result X E → Result Y E
over f (Ok x) = Ok (f x)
over f (Err e) = Err e
