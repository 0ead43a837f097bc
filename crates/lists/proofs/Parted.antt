-- The groups part the nodes by their names. Assumes nothing.
use Rattle.std.proofs.Common.{◌≡◌, ℕ, ◌+◌, Bool, true, false, cond, not, ◌&&◌, ◌||◌, List, [], ◌∷◌, ◌++◌, sym, refl, ap, ◌∙◌, ap₂, append_assoc, arith}
use mathlib.Core.Path.{fun_ext}
use Rattle.std.proofs.lemmas.Bool.{both_ways}
use Rattle.std.specs.List.{AllByRecursion}
use Rattle.std.specs.Str.{bytes_eq}
use Rattle.tree.specs.Document.{Node}
use Rattle.lists.specs.Each.{times, Subsequence, empty, kept, passed}
use Rattle.lists.specs.Groups.{Group, called, is_child, those_called, groups_after, groups, First}
use Rattle.lists.specs.Partition.{joined, firsts, groups_called, one_group, Parted}
use Rattle.lists.proofs.Each.{times_++}
use Rattle.lists.proofs.Names.{swap, equal, or_false, and_true}

pub pushed : (before : List Node) (c : Node) (m : List ℕ) → is_child (before ++ c ∷ []) m ≡ (is_child before m || bytes_eq (called c) m)
pushed [] c m = or_false (bytes_eq (called c) m)
pushed (d ∷ ds) c m = go (bytes_eq (called d) m) (pushed ds c m)
  where
    go : (b : Bool) → is_child (ds ++ c ∷ []) m ≡ (is_child ds m || bytes_eq (called c) m) → (b || is_child (ds ++ c ∷ []) m) ≡ ((b || is_child ds m) || bytes_eq (called c) m)
    go true h = refl
    go false h = h

abbrev starting : Node → List Node → Group
starting c cs = record { first = c; others = those_called (called c) cs }

-- the groups of one name
named : (m : List ℕ) (before cs : List Node) → groups_called m (groups_after before cs) ≡ cond (is_child before m) [] (one_group (those_called m cs))
named m before [] = go (is_child before m)
  where
    go : (b : Bool) → [] ≡ cond {A = List Group} b [] []
    go true = refl
    go false = refl
named m before (c ∷ cs) =
    go (is_child before (called c)) (bytes_eq (called c) m) refl refl (named m (before ++ c ∷ []) cs ∙ ap (λ x. cond x [] (one_group (those_called m cs))) (pushed before c m))
  where
    kin : List Node
    kin = those_called m cs

    others : List Group
    others = groups_called m (groups_after (before ++ c ∷ []) cs)

    go : (b t : Bool) → is_child before (called c) ≡ b → bytes_eq (called c) m ≡ t
        → others ≡ cond (is_child before m || bytes_eq (called c) m) [] (one_group kin)
        → groups_called m (cond b (groups_after (before ++ c ∷ []) cs) (starting c cs ∷ groups_after (before ++ c ∷ []) cs)) ≡ cond (is_child before m) [] (one_group (cond t (c ∷ kin) kin))
    go true true eb et ih =
        let h : is_child before m ≡ true = ap (is_child before) (sym (equal (called c) m et)) ∙ eb in
        ih ∙ ap (λ x. cond (x || bytes_eq (called c) m) [] (one_group kin)) h ∙ sym (ap (λ x. cond x [] (one_group (c ∷ kin))) h)
    go true false eb et ih = ih ∙ ap (λ x. cond x [] (one_group kin)) (ap (λ x. is_child before m || x) et ∙ or_false (is_child before m))
    go false true eb et ih =
        let h : is_child before m ≡ false = ap (is_child before) (sym (equal (called c) m et)) ∙ eb in
        ap (λ x. cond x (starting c cs ∷ others) others) et
        ∙ ap₂ (λ x l. record { first = c; others = those_called x cs } ∷ l) (equal (called c) m et) (ih ∙ ap₂ (λ x y. cond (x || y) [] (one_group kin)) h et)
        ∙ sym (ap (λ x. cond x [] (one_group (c ∷ kin))) h)
    go false false eb et ih =
        ap (λ x. cond x (starting c cs ∷ others) others) et
        ∙ ih ∙ ap (λ x. cond x [] (one_group kin)) (ap (λ x. is_child before m || x) et ∙ or_false (is_child before m))

module _ (test : Node → Bool) where
  -- those that pass and whose name none before has
  abbrev new : List Node → List Node → ℕ
  new before cs = times (λ x. test x && not (is_child before (called x))) cs

  -- those of the name of c, and those whose name neither c nor one before has
  parts : (before : List Node) (c : Node) → is_child before (called c) ≡ false → (cs : List Node)
      → times test (those_called (called c) cs) + new (before ++ c ∷ []) cs ≡ new before cs
  parts before c h [] = refl
  parts before c h (d ∷ ds) =
      ap₂ (λ t b. t + (cond (test d && not b) 1 0 + V)) (push (bytes_eq (called d) (called c))) (pushed before c (called d) ∙ ap (λ b. is_child before (called d) || b) (swap (called c) (called d)))
      ∙ go (bytes_eq (called d) (called c)) (is_child before (called d)) (test d) (λ e. ap (is_child before) (equal (called d) (called c) e) ∙ h) (parts before c h ds)
    where
      S : List Node
      S = those_called (called c) ds

      T : ℕ
      T = times test S

      V : ℕ
      V = new (before ++ c ∷ []) ds

      W : ℕ
      W = new before ds

      push : (u : Bool) → times test (cond u (d ∷ S) S) ≡ cond u (cond (test d) 1 0 + T) T
      push true = refl
      push false = refl

      go : (u k v : Bool) → (u ≡ true → k ≡ false) → T + V ≡ W → cond u (cond v 1 0 + T) T + (cond (v && not (k || u)) 1 0 + V) ≡ cond (v && not k) 1 0 + W
      go true true v e ih = absurd (both_ways true (e refl) refl)
      go true false true e ih = omega arith
      go true false false e ih = omega arith
      go false true true e ih = omega arith
      go false true false e ih = omega arith
      go false false true e ih = omega arith
      go false false false e ih = omega arith

  -- where one before has the name of c, c adds nothing
  kept_out : (before : List Node) (c : Node) → is_child before (called c) ≡ true → (cs : List Node) → new (before ++ c ∷ []) cs ≡ new before cs
  kept_out before c h [] = refl
  kept_out before c h (d ∷ ds) =
      ap₂ (λ b t. cond (test d && not b) 1 0 + t) (pushed before c (called d) ∙ go (bytes_eq (called c) (called d)) refl) (kept_out before c h ds)
    where
      go : (u : Bool) → bytes_eq (called c) (called d) ≡ u → (is_child before (called d) || u) ≡ is_child before (called d)
      go true e = let k : is_child before (called d) ≡ true = ap (is_child before) (sym (equal (called c) (called d) e)) ∙ h in ap (λ b. b || true) k ∙ sym k
      go false e = or_false (is_child before (called d))

  counted : (before cs : List Node) → times test (joined (groups_after before cs)) ≡ new before cs
  counted before [] = refl
  counted before (c ∷ cs) = go (is_child before (called c)) refl (counted (before ++ c ∷ []) cs)
    where
      others : List Group
      others = groups_after (before ++ c ∷ []) cs

      W : ℕ
      W = new before cs

      no_one : (v : Bool) → W ≡ cond (v && not true) 1 0 + W
      no_one true = omega arith
      no_one false = omega arith

      go : (b : Bool) → is_child before (called c) ≡ b → times test (joined others) ≡ new (before ++ c ∷ []) cs
          → times test (joined (cond b others (starting c cs ∷ others))) ≡ cond (test c && not b) 1 0 + W
      go true e ih = ih ∙ kept_out before c e cs ∙ no_one (test c)
      go false e ih =
          ap (λ t. cond (test c) 1 0 + t) (times_++ test (those_called (called c) cs) (joined others) ∙ ap (λ t. times test (those_called (called c) cs) + t) ih ∙ parts before c e cs)
          ∙ ap (λ b. cond b 1 0 + W) (sym (and_true (test c)))

  all_counted : (cs : List Node) → times test (joined (groups cs)) ≡ times test cs
  all_counted cs = counted [] cs ∙ ap (λ p. times p cs) (fun_ext (λ c. and_true (test c)))

in_order : (before cs : List Node) → Subsequence (firsts (groups_after before cs)) cs
in_order before [] = empty
in_order before (c ∷ cs) = go (is_child before (called c)) (in_order (before ++ c ∷ []) cs)
  where
    others : List Group
    others = groups_after (before ++ c ∷ []) cs

    go : (b : Bool) → Subsequence (firsts others) cs → Subsequence (firsts (cond b others (starting c cs ∷ others))) (c ∷ cs)
    go true h = passed h
    go false h = kept h

begins : (whole before cs : List Node) → whole ≡ before ++ cs → AllByRecursion (First whole) (firsts (groups_after before cs))
begins whole before [] e = tt
begins whole before (c ∷ cs) e = go (is_child before (called c)) refl (begins whole (before ++ c ∷ []) cs (e ∙ sym (append_assoc before (c ∷ []) cs)))
  where
    others : List Group
    others = groups_after (before ++ c ∷ []) cs

    go : (b : Bool) → is_child before (called c) ≡ b → AllByRecursion (First whole) (firsts others) → AllByRecursion (First whole) (firsts (cond b others (starting c cs ∷ others)))
    go true q h = h
    go false q h = (record { before = before; after = cs; among = e; none_before = q }, h)

pub parted : (cs : List Node) → Parted cs (groups cs)
parted cs = record { each_name = λ m. named m [] cs; each_node = λ test. all_counted test cs; begins = begins cs [] cs refl; in_order = in_order [] cs }
