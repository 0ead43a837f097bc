-- What the library's search and its test of order come to over values under numbers. Assumes nothing.
use Rattle.std.proofs.Common.{◌≡◌, ℕ, zero, suc, ◌+◌, ◌-◌, ◌<◌, ◌≤◌, Bool, true, false, List, [], ◌∷◌, length, get_or, Some, None, Ok, Err, nat_lt, sym, refl, ap, ◌∙◌, subst, ⊎_elim, arith}
use Rattle.std.specs.List.{IsAllAdjacentAnswer}
use Rattle.std.specs.List.Sorted.{IsBinarySearchResult, IsNonDecreasingBy, IsStrictlyIncreasing}
use Rattle.std.specs.Ordering.{nat_cmp, ordering_index}
use Rattle.std.proofs.lemmas.Bool.{cond-true, cond-false, eq-eqb, ne_eqb, ltb-true, cases_eq, cases_lt}
use Rattle.std.proofs.lemmas.Bool.Decides.{nat_tests}
use Rattle.std.proofs.lemmas.Cmp.{ranked}
use Rattle.std.proofs.lemmas.List.{get_or-map, length-map}
use Rattle.std.proofs.lemmas.List.Kept.{AllPairs-from_increasing}
use Rattle.tree.specs.Numbers.{Rising}
use Rattle.index.specs.declared.keyed.Keyed.{Keyed}
use Rattle.index.specs.Keys.{keys, lookup}

pub key_at : {V : Type 0} (xs : List (Keyed V)) (k : ℕ) (d : Keyed V) → k < length xs → get_or (keys xs) k 0 ≡ (get_or xs k d).key
key_at xs k d l = get_or-map (λ x. x.key) xs k d 0 l

pub keys_length : {V : Type 0} (xs : List (Keyed V)) → length (keys xs) ≡ length xs
keys_length xs = length-map xs (λ x. x.key)

-- each number is above the one before it: so it is above all before it
pub rising : (ns : List ℕ) → IsStrictlyIncreasing ns → Rising ns
rising ns steps i j ij jn = AllPairs-from_increasing ns steps i j 0 ij jn

-- what the test of order answers
abbrev pub RisingAnswer : {V : Type 0} → List (Keyed V) → Bool → Type 0
RisingAnswer xs r = IsAllAdjacentAnswer (λ x y b. b ≡ nat_lt x.key y.key) xs r

pub rises : {V : Type 0} (xs : List (Keyed V)) (r : Bool) → RisingAnswer xs r → r ≡ true → Rising (keys xs)
rises [] true a e = λ i j ij jn. absurd (omega arith)
rises (x ∷ xs) true a e =
    let ys = x ∷ xs in
    rising (keys ys) (λ k kn.
    let long = keys_length ys in
    let at = key_at ys k x (omega arith) in
    let next = key_at ys (k + 1) x (omega arith) in
    let less = ltb-true _ _ (sym (a k x (omega arith))) in
    omega arith)
rises xs false a e = absurd (cc)

pub falls : {V : Type 0} (xs : List (Keyed V)) (r : Bool) → RisingAnswer xs r → r ≡ false → Rising (keys xs) → ⊥
falls xs true a e = absurd (cc)
falls [] false a e = λ rise. omega (arith, a.1)
falls (x ∷ xs) false a e = λ rise.
    let ys = x ∷ xs in
    let k = a.0 in
    let long = keys_length ys in
    let at = key_at ys k x (omega arith) in
    let next = key_at ys (k + 1) x (omega arith) in
    let less = rise k (k + 1) (omega arith) (omega arith) in
    grind (arith, nat_tests, a.2 x)

-- the key at a place, and no key before it the same
pub found : {V : Type 0} (xs : List (Keyed V)) (at key : ℕ) (d : Keyed V) → at < length xs → (get_or xs at d).key ≡ key → ((j : ℕ) → j < at → get_or (keys xs) j 0 ≡ key → ⊥) → Some (get_or xs at d).value ≡ lookup xs key
found [] at key d l is other = absurd (omega arith)
found (x ∷ xs) zero key d l is other = sym (cond-true _ _ _ (eq-eqb x.key key is))
found (x ∷ xs) (suc at) key d l is other =
    found xs at key d (omega arith) is (λ j lt. other (suc j) (omega arith))
    ∙ sym (cond-false _ _ _ (ne_eqb x.key key (other 0 (omega arith))))

-- the key nowhere
absent : {V : Type 0} (xs : List (Keyed V)) (key : ℕ) → ((j : ℕ) → j < length xs → get_or (keys xs) j 0 ≡ key → ⊥) → None ≡ lookup xs key
absent [] key other = refl
absent (x ∷ xs) key other =
    absent xs key (λ j lt. other (suc j) (omega arith)) ∙ sym (cond-false _ _ _ (ne_eqb x.key key (other 0 (omega arith))))

-- where keys rise and an item stands under the key, its value is what is looked up
pub hit_key : {V : Type 0} (xs : List (Keyed V)) (k key : ℕ) (x : Keyed V) → Rising (keys xs) → k < length xs → x ≡ get_or xs k x → x.key ≡ key → Some x.value ≡ lookup xs key
hit_key xs k key x rise l is has =
    ap (λ (y : Keyed _). Some y.value) is ∙ found xs k key x l (ap (λ (y : Keyed _). y.key) (sym is) ∙ has) (λ j lt same.
    let long = keys_length xs in
    let here = key_at xs k x l in
    let less = rise j k lt (omega arith) in
    let same_key = ap (λ (y : Keyed _). y.key) is in
    omega arith)

pub hit : {V : Type 0} (xs : List (Keyed V)) (at key : ℕ) (x : Keyed V) → Rising (keys xs) → at < length xs → x ≡ get_or xs at x → IsBinarySearchResult (λ (y : Keyed V). nat_cmp y.key key) xs (Ok at) → Some x.value ≡ lookup xs key
hit xs at key x rise l is equal =
    let has : (get_or xs at x).key ≡ key = ranked _ key _ (sym (equal x)) in
    hit_key xs at key x rise l is (ap (λ (y : Keyed _). y.key) is ∙ has)

-- the comparisons with the key rise, as a binary search asks
orderings_rise : {V : Type 0} (xs : List (Keyed V)) (key : ℕ) → Rising (keys xs) → IsNonDecreasingBy (λ (x : Keyed V). ordering_index (nat_cmp x.key key)) xs
orderings_rise xs key rise = λ i j d ij jn. ⊎_elim
    (λ (same : i ≡ j). rw same (omega arith))
    (λ other.
    let long = keys_length xs in
    let low = key_at xs i d (omega arith) in
    let high = key_at xs j d jn in
    let less = rise i j (omega arith) (omega arith) in
    grind (arith, nat_tests))
    (cases_eq i j)

pub missed : {V : Type 0} (xs : List (Keyed V)) (at key : ℕ) → Rising (keys xs) → IsBinarySearchResult (λ (x : Keyed V). nat_cmp x.key key) xs (Err at) → None ≡ lookup xs key
missed [] at key rise parted = refl
missed (x ∷ xs) at key rise parted =
    let ys = x ∷ xs in
    let parts = parted (orderings_rise ys key rise) in
    absent ys key (λ j jn same.
    let here = key_at ys j x jn in
    ⊎_elim
    (λ (before : j < at). let less : (get_or ys j x).key < key = ranked _ key _ (sym (parts.0 j x (omega arith) before)) in omega arith)
    (λ behind. let more : key < (get_or ys j x).key = ranked _ key _ (sym (parts.1 j x (omega arith) jn)) in omega arith)
    (cases_lt j at))

-- the keys below low are less than key, and those from high on are greater
pub record Between (ks : List ℕ) (key low high : ℕ) : Type 0 where
  pub bound : high ≤ length ks
  pub below : (k : ℕ) → k < low → get_or ks k 0 < key
  pub above : (k : ℕ) → high ≤ k → k < length ks → key < get_or ks k 0

pub right : (ks : List ℕ) (key low high mid : ℕ) → Rising ks → Between ks key low high → low ≤ mid → mid < high → get_or ks mid 0 < key → Between ks key (mid + 1) high
right ks key low high mid r b l m less = let n = b.bound in record {
  bound = n;
  below = λ k lt. ⊎_elim
      (λ (same : k ≡ mid). subst (λ j. get_or ks j 0 < key) (sym same) less)
      (λ other. let o = r k mid (omega arith) (omega arith) in omega arith)
      (cases_eq k mid);
  above = b.above;
}

pub left : (ks : List ℕ) (key low high mid : ℕ) → Rising ks → Between ks key low high → low ≤ mid → mid < high → key < get_or ks mid 0 → Between ks key low mid
left ks key low high mid r b l m more = let n = b.bound in record {
  bound = omega arith;
  below = b.below;
  above = λ k ge lt. ⊎_elim
      (λ (same : k ≡ mid). subst (λ j. key < get_or ks j 0) (sym same) more)
      (λ other. let o = r mid k (omega arith) lt in omega arith)
      (cases_eq k mid);
}

pub missed_between : {V : Type 0} (xs : List (Keyed V)) (key low high : ℕ) → Between (keys xs) key low high → high ≤ low → None ≡ lookup xs key
missed_between xs key low high b ge =
    let long = keys_length xs in
    absent xs key (λ k lt same. ⊎_elim
    (λ (less : k < low). let g = b.below k less in omega arith)
    (λ more. let g = b.above k (omega arith) (omega arith) in omega arith)
    (cases_lt k low))

-- the keys before n rise
abbrev pub RisingTo : List ℕ → ℕ → Type 0
RisingTo ks n = (i j : ℕ) → i < j → j < n → get_or ks i 0 < get_or ks j 0

pub rising_more : (ks : List ℕ) (n : ℕ) → 1 ≤ n → RisingTo ks n → get_or ks (n - 1) 0 < get_or ks n 0 → RisingTo ks (n + 1)
rising_more ks n pos r lt i j ij jn = ⊎_elim
    (λ (same : j ≡ n). ⊎_elim
    (λ (last : i ≡ n - 1). subst (λ k. get_or ks i 0 < get_or ks k 0) (sym same) (subst (λ k. get_or ks k 0 < get_or ks n 0) (sym last) lt))
    (λ before. let o = r i (n - 1) (omega arith) (omega arith) in subst (λ k. get_or ks i 0 < get_or ks k 0) (sym same) (omega arith))
    (cases_eq i (n - 1)))
    (λ other. r i j ij (omega arith))
    (cases_eq j n)
