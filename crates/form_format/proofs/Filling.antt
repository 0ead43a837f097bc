-- Elements that fill a place are what is written there one behind the other. Assumes nothing.
use Rattle.std.proofs.Common.{◌≡◌, ℕ, zero, suc, ◌+◌, ◌^◌, ◌<◌, ◌≤◌, false, List, [], ◌∷◌, ◌++◌, length, Ok, refl, ap, ◌∙◌, subst, arith, length-append}
use Rattle.std.specs.List.{AllByRecursion}
use Rattle.std.proofs.lemmas.Bool.{cond-false}
use Rattle.records.specs.Numbers.{Bytes}
use Rattle.records.specs.Records.{none}
use Rattle.records.specs.Places.{Place, Read}
use Rattle.records.proofs.Results.{ok_ok, then_ok, then_is}
use Rattle.records.proofs.Parts.{Goes, place, goes_bytes, goes_long}
use Rattle.form_format.specs.Reading.{filled}
use Rattle.form_format.specs.Writing.{each}

-- one reads what w writes, at most most of them, each of which Fits
module _ {X : Type 0} (one : ℕ → Place → Read (X × Place)) (w : X → List ℕ) (Fits : X → Type 0) (most : ℕ) where
  pub record Takes (n : ℕ) (p : Place) (x : X) (q : Place) : Type 0 where
    pub goes : Goes p (w x) q
    pub long : 6 ≤ length (w x)
    pub before : n < most
    pub fits : Fits x

  pub record Fills (n : ℕ) (bs : List ℕ) (xs : List X) : Type 0 where
    pub written : bs ≡ each w xs
    pub few : n + length xs ≤ most
    pub fit : AllByRecursion Fits xs

  abbrev pub Sound : Type 0
  Sound = (n : ℕ) (p : Place) (x : X) (q : Place) → Bytes p.bytes → one n p ≡ Ok (x, q) → Takes n p x q

  pub fills_none : (n at : ℕ) (xs : List X) → n ≤ most → ◌≡◌ {A = Read (List X)} (Ok []) (Ok xs) → Fills n [] xs
  fills_none n at xs le e = subst (Fills n []) (ok_ok e) (record { written = refl; few = omega arith; fit = tt })

  pub fills : Sound → (g n at : ℕ) (bs : List ℕ) (xs : List X) → Bytes bs → length bs ≤ g → n ≤ most → filled one g n (place at bs) ≡ Ok xs → Fills n bs xs
  unfolding filled
  fills sound zero n at [] xs b l le e = fills_none n at xs le e
  fills sound zero n at (y ∷ ys) xs b l le e = absurd (omega arith)
  fills sound (suc g) n at [] xs b l le e = fills_none n at xs le e
  fills sound (suc g) n at (y ∷ ys) xs b l le e =
      let h = then_ok (one n (place at (y ∷ ys))) _ xs e in
      let x = h.0.0 in
      let q = h.0.1 in
      let t = sound n (place at (y ∷ ys)) x q b h.1 in
      let k = then_ok (filled one g (suc n) q) _ xs h.2 in
      let long = goes_long (place at (y ∷ ys)) q (w x) t.goes in
      let six = t.long in
      let less = t.before in
      let f = fills sound g (suc n) q.at q.bytes k.0 (goes_bytes (place at (y ∷ ys)) q (w x) t.goes b) (omega arith) (omega arith) k.1 in
      let few = f.few in
      subst (Fills n (y ∷ ys)) (ok_ok k.2) (record {
        written = t.goes.bytes ∙ ap (λ z. w x ++ z) f.written;
        few = omega arith;
        fit = (t.fits, f.fit);
      })

  abbrev pub Whole : Type 0
  Whole = (n at : ℕ) (x : X) (rest : List ℕ) → n < most → Fits x → length (w x) < 2 ^ 32 → (6 ≤ length (w x)) × (none (w x ++ rest) ≡ false) × (one n (place at (w x ++ rest)) ≡ Ok (x, place (at + length (w x)) rest))

  pub fills_back : Whole → (g n at : ℕ) (xs : List X) → AllByRecursion Fits xs → n + length xs ≤ most → length (each w xs) < 2 ^ 32 → length (each w xs) ≤ g → filled one g n (place at (each w xs)) ≡ Ok xs
  unfolding filled
  fills_back whole zero n at [] fit few short enough = refl
  fills_back whole (suc g) n at [] fit few short enough = refl
  fills_back whole zero n at (x ∷ xs) fit few short enough =
      let s = length-append (w x) (each w xs) in
      let t = whole n at x (each w xs) (omega arith) fit.0 (omega arith) in
      let six = t.0 in
      absurd (omega arith)
  fills_back whole (suc g) n at (x ∷ xs) fit few short enough =
      let s = length-append (w x) (each w xs) in
      let t = whole n at x (each w xs) (omega arith) fit.0 (omega arith) in
      let six = t.0 in
      cond-false _ _ _ t.1
      ∙ then_is _ _ _ _ t.2 (then_is _ _ _ _ (fills_back whole g (suc n) (at + length (w x)) xs fit.1 (omega arith) (omega arith) (omega arith)) refl)
