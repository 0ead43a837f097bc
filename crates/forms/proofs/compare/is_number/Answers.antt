use Rattle.std.proofs.Common.{codes, Some, arith}
use Rattle.std.proofs.lemmas.Slice.Eq.{strip_prefix_is}
use Rattle.std.proofs.lemmas.Bool.Decides.{Decides-eqb}
use Rattle.forms.proofs.Numbers.{tied_first, hashed, another_digit, no_digit, first_digit, tied_more}
use Rattle.forms.proofs.compare.is_number.Goals as goal

pub loop-digits-init : goal.loop-digits-init
loop-digits-init c = tied_first c.in-Some.digits.now c.args.i (omega (arith, c.ranges.i.fits))

pub returns-then-from-digit : goal.returns-then-from-digit
returns-then-from-digit c =
    hashed _ c.args.name.now c.in-Some.digits.now c.args.i (strip_prefix_is Decides-eqb c.args.name.now (codes "#") (Some c.in-Some.digits) c.in-Some.ensures.cases)
    (another_digit c.in-Some.digits.now c.args.i c.loop-digits.digits.now c.loop-digits.n c.loop-digits.invariant (λ e. omega arith))

pub returns-then-n-lt10 : goal.returns-then-n-lt10
returns-then-n-lt10 c =
    hashed _ c.args.name.now c.in-Some.digits.now c.args.i (strip_prefix_is Decides-eqb c.args.name.now (codes "#") (Some c.in-Some.digits) c.in-Some.ensures.cases)
    (first_digit c.in-Some.digits.now c.args.i c.loop-digits.digits.now c.loop-digits.n c.loop-digits.invariant c.in-len1-up.len_at_least (omega arith) _ c.if-n-lt10.true c.is_empty.ensures)

pub loop-digits-preserved : goal.loop-digits-preserved
loop-digits-preserved c =
    tied_more c.in-Some.digits.now c.args.i c.loop-digits.digits.now c.loop-digits.n c.loop-digits.invariant c.in-len1-up.len_at_least (omega arith) c.if-n-lt10.false

pub returns : goal.returns
returns c =
    hashed _ c.args.name.now c.in-Some.digits.now c.args.i (strip_prefix_is Decides-eqb c.args.name.now (codes "#") (Some c.in-Some.digits) c.in-Some.ensures.cases)
    (no_digit c.in-Some.digits.now c.args.i c.loop-digits.digits.now c.loop-digits.n c.loop-digits.invariant c.in_default-digits.len_below)
