-- What is said of a node or an entry that is found. Assumes nothing.
use Rattle.std.proofs.Common.{◌≡◌, Some, None, Option, OnSome, refl}

pub on_some : {X : Type 0} (o : Option X) (P : Type 0) → ((x : X) → o ≡ Some x → P) → OnSome o P
on_some None P f = tt
on_some (Some x) P f = f x refl
