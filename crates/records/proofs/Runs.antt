-- How a result that code passes on by `?` follows the reading. Assumes nothing.
use Rattle.std.proofs.Common.{◌≡◌, Ok, Err, sym, refl, ap, ◌∙◌}
use Rattle.records.specs.declared.fault.RecordFault.{RecordFault}
use Rattle.tree.specs.Outcome.{and_then, over}
use Rattle.records.specs.Places.{Read}
use Rattle.records.proofs.Results.{err_ok, ok_ok}

err_err : {X : Type 0} {d e : RecordFault} → ◌≡◌ {A = Read X} (Err d) (Err e) → d ≡ e
err_err e = cc

-- the first step refuses
pub stop : {X Y : Type 0} (m : Read X) (f : X → Read Y) (e : RecordFault) → Err e ≡ m → Err e ≡ and_then m f
stop m f e h = ap (λ m. and_then m f) h

-- the first step reads x
pub go : {X Y : Type 0} (m : Read X) (f : X → Read Y) (x : X) (t : Read Y) → Ok x ≡ m → t ≡ f x → t ≡ and_then m f
go m f x t h k = k ∙ ap (λ m. and_then m f) h

-- the same where the code keeps less of what is read: g of each step, and h of all
module _ {X Y W : Type 0} (h : Y → W) where
  pub stops : (m : Read X) (f : X → Read Y) (e : RecordFault) → Err e ≡ m → Err e ≡ over h (and_then m f)
  stops m f e k = ap (λ m. over h (and_then m f)) k

  pub goes_on : (m : Read X) (f : X → Read Y) (x : X) (t : Read W) → Ok x ≡ m → t ≡ over h (f x) → t ≡ over h (and_then m f)
  goes_on m f x t k l = l ∙ ap (λ m. over h (and_then m f)) k

  pub stops_over : {Z : Type 0} (g : X → Z) (m : Read X) (f : X → Read Y) (e : RecordFault) → Err e ≡ over g m → Err e ≡ over h (and_then m f)
  stops_over g (Ok x) f e k = err_ok e (g x) k
  stops_over g (Err d) f e k = ap Err (err_err k)

  pub goes_over : {Z : Type 0} (g : X → Z) (m : Read X) (f : X → Read Y) (z : Z) (t : Read W) → Ok z ≡ over g m → ((x : X) → z ≡ g x → t ≡ over h (f x)) → t ≡ over h (and_then m f)
  goes_over g (Ok x) f z t k next = next x (ok_ok k)
  goes_over g (Err d) f z t k next = err_ok d z (sym k)

-- keeping less of each step comes to keeping less of all
pub keep : {X Y Z W : Type 0} (g : X → Z) (h : Y → W) (m : Read X) (f : X → Read Y) (f' : Z → Read W) → ((x : X) → over h (f x) ≡ f' (g x)) → over h (and_then m f) ≡ and_then (over g m) f'
keep g h (Ok x) f f' e = e x
keep g h (Err d) f f' e = refl

pub keep_all : {X Y W : Type 0} (h : Y → W) (m : Read X) (f : X → Read Y) (f' : X → Read W) → ((x : X) → over h (f x) ≡ f' x) → over h (and_then m f) ≡ and_then m f'
keep_all h (Ok x) f f' e = e x
keep_all h (Err d) f f' e = refl
