use Rattle.std.proofs.Common.{◌≡◌, drop}
use Rattle.forms.specs.Forms.{form_of, position_from}
use Rattle.forms.specs.Fixed.{fixed_forms}
use Rattle.forms.specs.Keys.{spelled}
use Rattle.forms.specs.Lent.{key_of}
use Rattle.forms.proofs.fixed.FixedForms.position.Given as goal

abbrev pub invariant-loop-i : goal.invariant-loop-i
invariant-loop-i l = position_from l.i (drop l.i (form_of fixed_forms l.form)) (spelled (key_of l.key)) ≡ position_from 0 (form_of fixed_forms l.form) (spelled (key_of l.key))
