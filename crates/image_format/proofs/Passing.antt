-- The reading that keeps only where it stands, as the code has it. Assumes nothing.
use Rattle.std.proofs.Common.{◌≡◌, ℕ, Bool, true, false, cond, eqb, leb, Some, None, Ok, Err, Option, Result, sym, refl, ap, ◌∙◌, arith}
use Rattle.records.specs.declared.fault.Cause.{Cause}
use Rattle.records.specs.declared.fault.Cause.TheVariants.{Nesting}
use Rattle.records.specs.declared.fault.RecordFault.{RecordFault}
use Rattle.tree.specs.Document.{Value}
use Rattle.tree.specs.Outcome.{and_then, over}
use Rattle.image_format.specs.Reading.{Place, Read, fault, located, part, part_of, spanned, ident, perhaps, ended, next, value, entry, Fore, fore}
use Rattle.image_format.proofs.Runs.{keep, keep_all}

abbrev pub behind : {X : Type 0} → X × Place → Place
behind x = x.1

-- what is wrong with a value, if something is
abbrev pub wrong : {X : Type 0} → Result X Cause → Option Cause
wrong (Ok x) = None
wrong (Err c) = Some c

some_none : {X Y : Type 0} (x : X) → Some x ≡ None → Y
some_none x e = absurd (let z : ◌≡◌ {A = ℕ} 0 1 = cc in omega arith)

pub value_wrong : (p q : Place) (m : Result Value Cause) (c : Cause) → Some c ≡ wrong m → fault p c ≡ over behind (and_then (located p m) (λ v. Ok (v, q)))
value_wrong p q (Ok x) c e = some_none c e
value_wrong p q (Err d) c e = let same : c ≡ d = cc in ap (fault p) same

pub value_right : (p q : Place) (m : Result Value Cause) → None ≡ wrong m → Ok q ≡ over behind (and_then (located p m) (λ v. Ok (v, q)))
value_right p q (Ok x) e = refl
value_right p q (Err d) e = some_none d (sym e)

abbrev pub pass_entry : Place → Read Place
pass_entry p =
    and_then (part p) (λ r.
    and_then (over behind (spanned p r.body)) (λ s.
    and_then (over behind (perhaps (eqb r.kind 6) 3 s)) (λ n.
    and_then (over behind (perhaps (eqb (next n) 4) 4 n)) (λ t.
    and_then (over behind (value t)) (λ v.
    and_then (ended v) (λ _.
    Ok r.after))))))

pub entry_passes : (p : Place) → over behind (entry p) ≡ pass_entry p
unfolding entry
entry_passes p =
    keep_all behind (part p) _ _ (λ r.
    keep behind behind (spanned p r.body) _ _ (λ s.
    keep behind behind (perhaps (eqb r.kind 6) 3 s.1) _ _ (λ n.
    keep behind behind (perhaps (eqb (next n.1) 4) 4 n.1) _ _ (λ t.
    keep behind behind (value t.1) _ _ (λ v.
    keep_all behind (ended v.1) _ _ (λ _. refl))))))

-- of a node up to its entries: where entries may stand, and what follows the node
pub record Aside : Type 0 where
  pub rest : Place
  pub after : Place

abbrev pub aside : Fore → Aside
aside x = record { rest = x.rest; after = x.after }

abbrev pub pass_fore : ℕ → Place → Read Aside
pass_fore d p =
    and_then (part_of 2 p) (λ r.
    and_then (cond (leb d 32) (over behind (spanned p r.body)) (fault p Nesting)) (λ s.
    and_then (over behind (ident 3 s)) (λ n.
    and_then (over behind (perhaps (eqb (next n) 4) 4 n)) (λ t.
    Ok (record { rest = t; after = r.after })))))

over_cond : {X Y : Type 0} (g : X → Y) (b : Bool) (m : Read X) (e : RecordFault) → over g (cond b m (Err e)) ≡ cond b (over g m) (Err e)
over_cond g true m e = refl
over_cond g false m e = refl

pub fore_passes : (d : ℕ) (p : Place) → over aside (fore d p) ≡ pass_fore d p
unfolding fore
fore_passes d p =
    keep_all aside (part_of 2 p) _ _ (λ r.
    let F : Place → Read Aside = λ s. and_then (over behind (ident 3 s)) (λ n. and_then (over behind (perhaps (eqb (next n) 4) 4 n)) (λ t. Ok (record { rest = t; after = r.after }))) in
    keep behind aside (cond (leb d 32) (spanned p r.body) (fault p Nesting)) _ F (λ s.
    keep behind aside (ident 3 s.1) _ _ (λ n.
    keep behind aside (perhaps (eqb (next n.1) 4) 4 n.1) _ _ (λ t. refl)))
    ∙ ap (λ m. and_then m F) (over_cond behind (leb d 32) (spanned p r.body) _))
