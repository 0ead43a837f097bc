-- Writing a record and cutting one off are one another's inverse. Assumes nothing.
use Rattle.std.proofs.Common.{◌≡◌, ℕ, ◌+◌, ◌-◌, ◌*◌, ◌^◌, ◌<◌, ◌≤◌, Bool, true, false, cond, ◌||◌, eqb, ltb, ◌⊎◌, List, [], ◌∷◌, ◌++◌, length, get_or, take, drop, Some, None, Ok, Err, Option, sym, refl, ap, ◌∙◌, subst, ⊎_elim, arith, length-append, length-drop, take-append-drop, length-take-le, take_all, take_at, drop_at}
use Rattle.std.proofs.ByRecursion.{All-take, All-drop}
use Rattle.std.proofs.lemmas.Bool.{ne_eqb, lt-ltb, le-ltb, ltb-false, or_parts}
use Rattle.records.specs.Numbers.{Bytes, number, low}
use Rattle.records.specs.Records.{record_of, Mark, mark, none, next_kind, Cut, cut_by, cut}
use Rattle.records.specs.declared.fault.Cause.TheVariants.{Missing, Length}
use Rattle.records.proofs.Numbers.{low_number, number_low}
use Rattle.records.proofs.Results.{err_ok, passes}

pub record_long : (k : ℕ) (b : List ℕ) → length (record_of k b) ≡ 6 + length b
unfolding record_of
record_long k b = omega arith

pub none_length : (xs : List ℕ) → none xs ≡ eqb (length xs) 0
none_length [] = refl
none_length (x ∷ xs) = sym (ne_eqb (length (x ∷ xs)) 0 (λ e. omega arith))

pub some_bytes : (k : ℕ) (b rest : List ℕ) → none (record_of k b ++ rest) ≡ false
unfolding record_of
some_bytes k b rest = refl

-- what the head of some bytes is
pub marked : (xs rest : List ℕ) (s k : ℕ) → 6 ≤ length xs
    → s ≡ get_or xs 0 0 + get_or xs 1 0 * 256 + get_or xs 2 0 * 65536 + get_or xs 3 0 * 16777216 → k ≡ get_or xs 4 0 + get_or xs 5 0 * 256 → rest ≡ take (length xs - 6) (drop 6 xs)
    → Some (record { size = s; kind = k; rest = rest }) ≡ mark xs
marked [] rest s k l e f g = absurd (omega arith)
marked (a1 ∷ []) rest s k l e f g = absurd (omega arith)
marked (a1 ∷ a2 ∷ []) rest s k l e f g = absurd (omega arith)
marked (a1 ∷ a2 ∷ a3 ∷ []) rest s k l e f g = absurd (omega arith)
marked (a1 ∷ a2 ∷ a3 ∷ a4 ∷ []) rest s k l e f g = absurd (omega arith)
marked (a1 ∷ a2 ∷ a3 ∷ a4 ∷ k1 ∷ []) rest s k l e f g = absurd (omega arith)
marked (a1 ∷ a2 ∷ a3 ∷ a4 ∷ k1 ∷ k2 ∷ xs) rest s k l e f g =
    let size : s ≡ number (a1 ∷ a2 ∷ a3 ∷ a4 ∷ []) = omega arith in
    let kind : k ≡ number (k1 ∷ k2 ∷ []) = omega arith in
    let all : rest ≡ xs = g ∙ take_all _ xs (omega arith) in
    λ i. Some (record { size = size i; kind = kind i; rest = all i })

either_way : {X : Type 0} (b : Bool) (x y : X) → cond (b || true) x y ≡ x
either_way true x y = refl
either_way false x y = refl

module _ (bs : List ℕ) where
  pub cut_empty : true ≡ eqb (length bs) 0 → Err Missing ≡ cut bs
  unfolding cut
  cut_empty e = rw (none_length bs, ← e)

  pub cut_headless : false ≡ eqb (length bs) 0 → None ≡ mark bs → Err Length ≡ cut bs
  unfolding cut
  cut_headless e f = rw (none_length bs, ← e, ← f)

  pub cut_long : (m : Mark) → false ≡ eqb (length bs) 0 → Some m ≡ mark bs → (m.size < 6) ⊎ (length m.rest < m.size - 6) → Err Length ≡ cut bs
  unfolding cut
  cut_long m e f long = rw (none_length bs, ← e, ← f) (⊎_elim
      (λ a. rw (lt-ltb m.size 6 a))
      (λ b. rw (lt-ltb (length m.rest) (m.size - 6) b) (sym (either_way (ltb m.size 6) _ _)))
      long)

  pub cut_whole : (m : Mark) (b a : List ℕ) → false ≡ eqb (length bs) 0 → Some m ≡ mark bs → 6 ≤ m.size → m.size - 6 ≤ length m.rest
      → b ≡ take (m.size - 6) m.rest → a ≡ drop (m.size - 6) m.rest → Ok (record { kind = m.kind; body = b; rest = a }) ≡ cut bs
  unfolding cut
  cut_whole m b a e f big fits x y =
      rw (none_length bs, ← e, ← f, le-ltb m.size 6 big, le-ltb (length m.rest) (m.size - 6) fits)
      (λ i. Ok (record { kind = m.kind; body = x i; rest = y i }))

-- a record that was cut off is what the bytes begin with
pub record Begins (bs : List ℕ) (c : Cut) : Type 0 where
  pub written : bs ≡ record_of c.kind c.body ++ c.rest
  pub body : Bytes c.body
  pub rest : Bytes c.rest
  pub kind : next_kind bs ≡ c.kind

pub begins : (bs : List ℕ) (c : Cut) → Bytes bs → cut bs ≡ Ok c → Begins bs c
unfolding cut record_of
begins [] c b e = err_ok _ c e
begins (a1 ∷ []) c b e = err_ok _ c e
begins (a1 ∷ a2 ∷ []) c b e = err_ok _ c e
begins (a1 ∷ a2 ∷ a3 ∷ []) c b e = err_ok _ c e
begins (a1 ∷ a2 ∷ a3 ∷ a4 ∷ []) c b e = err_ok _ c e
begins (a1 ∷ a2 ∷ a3 ∷ a4 ∷ k1 ∷ []) c b e = err_ok _ c e
begins (a1 ∷ a2 ∷ a3 ∷ a4 ∷ k1 ∷ k2 ∷ xs) c b e =
    let size = number (a1 ∷ a2 ∷ a3 ∷ a4 ∷ []) in
    let kind = number (k1 ∷ k2 ∷ []) in
    let n = size - 6 in
    let g = passes (ltb size 6 || ltb (length xs) n) _ _ c e in
    let t = or_parts (ltb size 6) (ltb (length xs) n) g.0 in
    let big = ltb-false size 6 t.0 in
    let fits = ltb-false (length xs) n t.1 in
    let long : length (take n xs) ≡ n = length-take-le n xs fits in
    let whole : 6 + length (take n xs) ≡ size = omega arith in
    let s = low_number (a1 ∷ a2 ∷ a3 ∷ a4 ∷ []) (b.0, (b.1.0, (b.1.1.0, (b.1.1.1.0, tt)))) in
    let k = low_number (k1 ∷ k2 ∷ []) (b.1.1.1.1.0, (b.1.1.1.1.1.0, tt)) in
    let same : record { kind = kind; body = take n xs; rest = drop n xs } ≡ c = let q = g.1 in cc in
    subst (Begins (a1 ∷ a2 ∷ a3 ∷ a4 ∷ k1 ∷ k2 ∷ xs)) same (record {
      written = sym (ap (λ m. (low 4 m ++ (low 2 kind ++ take n xs)) ++ drop n xs) whole ∙ (λ i. (s i ++ (k i ++ take n xs)) ++ drop n xs) ∙ ap (λ ys. a1 ∷ a2 ∷ a3 ∷ a4 ∷ k1 ∷ k2 ∷ ys) (take-append-drop n xs));
      body = All-take (λ x. x < 256) n xs b.1.1.1.1.1.1;
      rest = All-drop (λ x. x < 256) n xs b.1.1.1.1.1.1;
      kind = refl;
    })

by_mark : (m : Mark) (b rest : List ℕ) → m.size ≡ 6 + length b → m.rest ≡ b ++ rest → cut_by (Some m) ≡ Ok (record { kind = m.kind; body = b; rest = rest })
by_mark m b rest s e =
    let n : m.size - 6 ≡ length b = omega arith in
    let sum = ap length e ∙ length-append b rest in
    let front : take (length b) (b ++ rest) ≡ b = take_at b rest (length b) refl in
    let back : drop (length b) (b ++ rest) ≡ rest = drop_at b rest (length b) refl in
    let fits = le-ltb (length m.rest) (length b) (omega arith) in
    let big = le-ltb m.size 6 (omega arith) in
    rw (n, big, fits, e, front, back)

-- a record that is written is cut off
pub cuts : (k : ℕ) (b rest : List ℕ) → k < 65536 → length (record_of k b) < 2 ^ 32 → cut (record_of k b ++ rest) ≡ Ok (record { kind = k; body = b; rest = rest })
unfolding cut record_of
cuts k b rest small short =
    let size = number_low 4 (6 + length b) (omega arith) in
    let kind = number_low 2 k small in
    by_mark (record { size = number (low 4 (6 + length b)); kind = number (low 2 k); rest = b ++ rest }) b rest size refl
    ∙ (λ i. Ok (record { kind = kind i; body = b; rest = rest }))

pub next_record : (k : ℕ) (b rest : List ℕ) → k < 65536 → next_kind (record_of k b ++ rest) ≡ k
unfolding record_of
next_record k b rest small = number_low 2 k small

none_some : {X Y : Type 0} (x : X) → None ≡ Some x → Y
none_some x e = absurd (let z : ◌≡◌ {A = ℕ} 0 1 = cc in omega arith)

rest_or : List ℕ → Option Mark → List ℕ
rest_or xs None = xs
rest_or xs (Some m) = m.rest

pub marked_long : (xs : List ℕ) (m : Mark) → Some m ≡ mark xs → length m.rest + 6 ≡ length xs
unfolding rest_or
marked_long [] m e = none_some m (sym e)
marked_long (a1 ∷ []) m e = none_some m (sym e)
marked_long (a1 ∷ a2 ∷ []) m e = none_some m (sym e)
marked_long (a1 ∷ a2 ∷ a3 ∷ []) m e = none_some m (sym e)
marked_long (a1 ∷ a2 ∷ a3 ∷ a4 ∷ []) m e = none_some m (sym e)
marked_long (a1 ∷ a2 ∷ a3 ∷ a4 ∷ k1 ∷ []) m e = none_some m (sym e)
marked_long (a1 ∷ a2 ∷ a3 ∷ a4 ∷ k1 ∷ k2 ∷ xs) m e = let f : m.rest ≡ xs = ap (rest_or xs) e in let g = ap length f in omega arith

-- a record is as long as its head, its body and what follows it
pub cut_size : (xs : List ℕ) (c : Cut) → cut xs ≡ Ok c → length c.body + length c.rest + 6 ≡ length xs
unfolding cut
cut_size [] c e = err_ok _ c e
cut_size (a1 ∷ []) c e = err_ok _ c e
cut_size (a1 ∷ a2 ∷ []) c e = err_ok _ c e
cut_size (a1 ∷ a2 ∷ a3 ∷ []) c e = err_ok _ c e
cut_size (a1 ∷ a2 ∷ a3 ∷ a4 ∷ []) c e = err_ok _ c e
cut_size (a1 ∷ a2 ∷ a3 ∷ a4 ∷ k1 ∷ []) c e = err_ok _ c e
cut_size (a1 ∷ a2 ∷ a3 ∷ a4 ∷ k1 ∷ k2 ∷ xs) c e =
    let size = number (a1 ∷ a2 ∷ a3 ∷ a4 ∷ []) in
    let kind = number (k1 ∷ k2 ∷ []) in
    let n = size - 6 in
    let g = passes (ltb size 6 || ltb (length xs) n) _ _ c e in
    let t = or_parts (ltb size 6) (ltb (length xs) n) g.0 in
    let fits = ltb-false (length xs) n t.1 in
    let long : length (take n xs) ≡ n = length-take-le n xs fits in
    let back = length-drop n xs in
    let same : record { kind = kind; body = take n xs; rest = drop n xs } ≡ c = let q = g.1 in cc in
    subst (λ (r : Cut). length r.body + length r.rest + 6 ≡ length (a1 ∷ a2 ∷ a3 ∷ a4 ∷ k1 ∷ k2 ∷ xs)) same (omega arith)

-- the head of a record that was cut off says its length and its kind
pub cut_mark : (xs : List ℕ) (c : Cut) → cut xs ≡ Ok c → (m : Mark) × (mark xs ≡ Some m) × (m.size ≡ 6 + length c.body) × (m.kind ≡ c.kind)
unfolding cut
cut_mark [] c e = err_ok _ c e
cut_mark (a1 ∷ []) c e = err_ok _ c e
cut_mark (a1 ∷ a2 ∷ []) c e = err_ok _ c e
cut_mark (a1 ∷ a2 ∷ a3 ∷ []) c e = err_ok _ c e
cut_mark (a1 ∷ a2 ∷ a3 ∷ a4 ∷ []) c e = err_ok _ c e
cut_mark (a1 ∷ a2 ∷ a3 ∷ a4 ∷ k1 ∷ []) c e = err_ok _ c e
cut_mark (a1 ∷ a2 ∷ a3 ∷ a4 ∷ k1 ∷ k2 ∷ xs) c e =
    let size = number (a1 ∷ a2 ∷ a3 ∷ a4 ∷ []) in
    let kind = number (k1 ∷ k2 ∷ []) in
    let n = size - 6 in
    let g = passes (ltb size 6 || ltb (length xs) n) _ _ c e in
    let t = or_parts (ltb size 6) (ltb (length xs) n) g.0 in
    let big = ltb-false size 6 t.0 in
    let fits = ltb-false (length xs) n t.1 in
    let long : length (take n xs) ≡ n = length-take-le n xs fits in
    let same : record { kind = kind; body = take n xs; rest = drop n xs } ≡ c = let q = g.1 in cc in
    let body : length c.body ≡ n = ap (λ (r : Cut). length r.body) (sym same) ∙ long in
    (record { size = size; kind = kind; rest = xs }, refl, omega arith, ap (λ (r : Cut). r.kind) same)
