use Rattle.std.proofs.Common.{◌≡◌, drop}
use Rattle.forms.specs.Forms.{form_of, has}
use Rattle.forms.specs.Keys.{spelled}
use Rattle.forms.specs.Lent.{key_of}
use Rattle.forms.proofs.member.has_key.Given as goal

abbrev pub invariant-loop-position : goal.invariant-loop-position
invariant-loop-position g l =
    let f = form_of (g.F.Forms.meaning l.forms) l.form in
    let m = spelled (key_of l.key) in
    has (drop l.position f) m ≡ has f m
