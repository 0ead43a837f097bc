use Rattle.forms.proofs.Numbers.{Tied}
use Rattle.forms.proofs.compare.is_number.Given as goal

abbrev pub invariant-loop-digits : goal.invariant-loop-digits
invariant-loop-digits l = Tied l.initial.digits l.i l.digits l.n

abbrev pub decreases-loop-digits : goal.decreases-loop-digits
decreases-loop-digits l = l.n
