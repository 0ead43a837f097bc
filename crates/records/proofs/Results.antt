-- Small facts on results. Assumes nothing.
use Rattle.std.proofs.Common.{◌≡◌, ℕ, Bool, true, false, cond, eqb, ◌⊎◌, is_ok, OnOk, IsErr, IsErrAnd, Ok, Err, Result, refl, sym, ap, ◌∙◌, inl, inr, ⊎_elim, arith}
use Rattle.std.proofs.lemmas.Bool.{cases_eq, eq-eqb, ne_eqb, false≢true}
use Rattle.std.proofs.lemmas.Result.{err_from_is_err_and}
use Rattle.tree.specs.Outcome.{and_then, over}

pub err_ok : {X E Y : Type 0} (d : E) (x : X) → Err d ≡ Ok x → Y
err_ok d x e = absurd (let z : ◌≡◌ {A = ℕ} 0 1 = cc in omega arith)

pub ok_ok : {X E : Type 0} {x y : X} → ◌≡◌ {A = Result X E} (Ok x) (Ok y) → x ≡ y
ok_ok e = cc

pub then_ok : {X Y E : Type 0} (m : Result X E) (f : X → Result Y E) (y : Y) → and_then m f ≡ Ok y → (x : X) × (m ≡ Ok x) × (f x ≡ Ok y)
then_ok (Ok x) f y e = (x, refl, e)
then_ok (Err d) f y e = err_ok d y e

-- a test that must fail, and one that must hold
pub passes : {X E : Type 0} (b : Bool) (d : E) (m : Result X E) (y : X) → cond b (Err d) m ≡ Ok y → (b ≡ false) × (m ≡ Ok y)
passes true d m y e = err_ok d y e
passes false d m y e = (refl, e)

pub holds : {X E : Type 0} (b : Bool) (d : E) (m : Result X E) (y : X) → cond b m (Err d) ≡ Ok y → (b ≡ true) × (m ≡ Ok y)
holds true d m y e = (refl, e)
holds false d m y e = err_ok d y e

pub chosen : {X E : Type 0} (k m : ℕ) (u v : Result X E) (y : X) → cond (eqb k m) u v ≡ Ok y → ((k ≡ m) × (u ≡ Ok y)) ⊎ (v ≡ Ok y)
chosen k m u v y e = ⊎_elim (λ is. inl (is, rw (eq-eqb k m is) at e)) (λ other. inr (rw (ne_eqb k m other) at e)) (cases_eq k m)

pub then_is : {X Y E : Type 0} (m : Result X E) (f : X → Result Y E) (x : X) (y : Result Y E) → m ≡ Ok x → f x ≡ y → and_then m f ≡ y
then_is m f x y e g = ap (λ m. and_then m f) e ∙ g

pub over_is : {X Y E : Type 0} (g : X → Y) (m : Result X E) (y : Y) → over g m ≡ Ok y → (x : X) × (m ≡ Ok x) × (g x ≡ y)
over_is g (Ok x) y e = (x, refl, ok_ok e)
over_is g (Err d) y e = err_ok d y e

-- the outcome of the call behind one that has given Ok
pub told_ok : {X E F P : Type 0} (r : Result X E) (q : Result X F) (x : X) → q ≡ Ok x → is_ok q ≡ is_ok r → OnOk r P → P
told_ok (Ok y) q x is same t = t
told_ok (Err e) q x is same t = absurd (false≢true (sym same ∙ ap is_ok is))

-- an error that is passed on by a question mark
pub passed : {X E : Type 0} {e : E} (r : Result X E) → IsErr r × IsErrAnd r (λ x. x ≡ e) → r ≡ Err e
passed r h = let p = err_from_is_err_and r h.1 in p.1 ∙ ap Err p.2
