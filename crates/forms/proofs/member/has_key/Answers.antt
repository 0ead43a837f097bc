use Rattle.std.proofs.Common.{◌≡◌, ℕ, List, Option, sym, subst, arith}
use Rattle.forms.specs.Forms.{nth, form_of}
use Rattle.forms.specs.Keys.{spelled}
use Rattle.forms.specs.Lent.{key_of}
use Rattle.forms.proofs.Members.{has_found, has_more, has_none, has_over}
use Rattle.forms.proofs.member.has_key.Goals as goal

-- what the set answers at j stands at i, where j is i
answered : {X : Type 0} (xs : List X) (i j : ℕ) (o : Option X) → o ≡ nth xs j → j ≡ i → nth xs i ≡ o
answered xs i j o e same = subst (λ k. nth xs k ≡ o) same (sym e)

pub returns-in_default : goal.returns-in_default
returns-in_default g c =
    let f = form_of (g.F.Forms.meaning c.args.forms.now) c.args.form in
    let i = c.loop-position.position in
    has_none f (spelled (key_of c.args.key)) i c.loop-position.invariant (answered f i _ _ c.in_default.ensures (omega arith))

pub returns-then-spells : goal.returns-then-spells
returns-then-spells g c =
    let f = form_of (g.F.Forms.meaning c.args.forms.now) c.args.form in
    let i = c.loop-position.position in
    has_found f (spelled (key_of c.args.key)) c.in-Some.name.now i c.loop-position.invariant (answered f i _ _ c.in-Some.ensures (omega arith)) c.if-spells.ensures

pub loop-position-preserved : goal.loop-position-preserved
loop-position-preserved g c =
    let f = form_of (g.F.Forms.meaning c.args.forms.now) c.args.form in
    let i = c.loop-position.position in
    has_more f (spelled (key_of c.args.key)) c.in-Some.name.now i c.loop-position.invariant (answered f i _ _ c.in-Some.ensures (omega arith)) c.if-spells.ensures

pub returns : goal.returns
returns g c =
    has_over (g.F.Forms.meaning c.args.forms.now) c.args.form (spelled (key_of c.args.key)) c.loop-position.position (g.F.Forms.lawful c.args.forms.now) c.loop-position.invariant (omega arith)
