-- Where a search among handles stands. Assumes nothing.
use Rattle.std.specs.Prelude.{Bool, true, false, Option, Some, None}

-- the handle that comes next: the one where the search stands, or, where that was passed, the one to which it leads on
abbrev pub standing : {H : Type 0} → (H → Option H) → Option H → Bool → Option H
standing next at false = at
standing next None true = None
standing next (Some h) true = next h
