-- What the steps of the code come to. Assumes nothing.
use Rattle.std.proofs.Common.{◌≡◌, ℕ, ◌+◌, ◌-◌, ◌<◌, ◌≤◌, List, length, take, drop, Ok, Err, sym, ap, ◌∙◌, arith, length-drop, take_all}
use Rattle.std.proofs.lemmas.Bool.{lt-ltb, le-ltb, lt-leb, cond-false}
use Rattle.tree.specs.Outcome.{over}
use Rattle.records.specs.declared.fault.Cause.{Cause}
use Rattle.records.specs.declared.fault.Cause.TheVariants.{Body, Nesting}
use Rattle.records.specs.Records.{Cut, cut}
use Rattle.image_format.specs.Reading.{Place, Part, fault, located, placed, part, part_of, spanned, fore}
use Rattle.image_format.proofs.Passing.{behind, aside, fore_passes}
use Rattle.image_format.proofs.Runs.{stop, go}

pub part_refused : (p : Place) (c : Cause) → Err c ≡ cut p.bytes → fault p c ≡ part p
unfolding part
part_refused p c e = ap (λ m. over (placed p) (located p m)) e

pub part_found : (p : Place) (c : Cut) → Ok c ≡ cut p.bytes → Ok (placed p c) ≡ part p
unfolding part
part_found p c e = ap (λ m. over (placed p) (located p m)) e

pub spanned_short : (p b : Place) → length b.bytes < 8 → fault p Body ≡ over behind (spanned p b)
unfolding spanned
spanned_short p b l = rw (lt-ltb (length b.bytes) 8 l)

pub spanned_long : (p b : Place) (rest : List ℕ) → 8 ≤ length b.bytes → rest ≡ take (length b.bytes - 8) (drop 8 b.bytes) → Ok (record { at = b.at + 8; bytes = rest }) ≡ over behind (spanned p b)
unfolding spanned
spanned_long p b rest l e =
    let all : rest ≡ drop 8 b.bytes = e ∙ take_all _ (drop 8 b.bytes) (simp length-drop (omega arith)) in
    rw (le-ltb (length b.bytes) 8 l) (λ i. Ok (record { at = b.at + 8; bytes = all i }))

-- a record of a node whose nesting is too deep
pub too_deep : (d : ℕ) (p : Place) (r : Part) → Ok r ≡ part_of 2 p → 32 < d → fault p Nesting ≡ over aside (fore d p)
too_deep d p r e l = go (part_of 2 p) _ r _ e (stop _ _ _ (sym (cond-false _ _ _ (lt-leb d 32 l)))) ∙ sym (fore_passes d p)
