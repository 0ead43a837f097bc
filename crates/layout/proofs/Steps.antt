-- What the reading of node rows comes to, row by row. Assumes nothing.
use Rattle.std.proofs.Common.{◌≡◌, ℕ, zero, suc, ◌+◌, ◌<◌, ◌≤◌, Bool, true, false, cond, ◌&&◌, ◌||◌, eqb, ltb, leb, length, drop, Some, None, Ok, Err, Option, Result, sym, refl, ap, ◌∙◌, add-one, arith}
use Rattle.std.proofs.lemmas.List.{drop_more, drop_all}
use Rattle.std.proofs.lemmas.Bool.{lt-ltb, le-ltb, le-leb, leb-true, eq-eqb, eqb-true, and_parts, and_from, cond-true, cond-false, false≢true}
use Rattle.tree.specs.Document.{Nodes, node, nil, cons}
use Rattle.tree.specs.Outcome.{and_then, over}
use Rattle.layout.specs.Rows.{Tables, in_text, perhaps_in_text, head}
use Rattle.layout.specs.Tables.{row, blank_entry, entry_row, next, line, judged, node_cause, block_of, rows, entry_cause, entry_rows}
use Rattle.layout.specs.declared.fault.Table.{Table}
use Rattle.layout.specs.declared.fault.Cause.{Cause}
use Rattle.layout.specs.declared.fault.TableFault.{TableFault}

pub record Passed {X Y E : Type 0} (r : Result X E) (g : X → Result Y E) (y : Y) : Type 0 where
  pub first : X
  pub was : r ≡ Ok first
  pub then : g first ≡ Ok y

pub passed : {X Y E : Type 0} (r : Result X E) (g : X → Result Y E) (y : Y) → and_then r g ≡ Ok y → Passed r g y
passed (Ok x) g y e = record { first = x; was = refl; then = e }
passed (Err x) g y e = absurd (let z : ◌≡◌ {A = ℕ} 0 1 = cc in omega arith)

pub no_cause : (table : Table) (i : ℕ) (o : Option Cause) (x : Unit {0}) → judged table i o ≡ Ok x → o ≡ None
no_cause table i None x e = refl
no_cause table i (Some c) x e = absurd (let z : ◌≡◌ {A = ℕ} 0 1 = cc in omega arith)

-- a test that let through
pub let_through : {X : Type 0} (b : Bool) (o : Option X) (x : X) → cond b o (Some x) ≡ None → (b ≡ true) × (o ≡ None)
let_through true o x e = (refl, e)
let_through false o x e = absurd (let z : ◌≡◌ {A = ℕ} 0 1 = cc in omega arith)

-- what holds of a sound node row
pub record Fit (t : Tables) (d i to : ℕ) : Type 0 where
  pub name : in_text t.text (row t i).name.part ≡ true
  pub type : perhaps_in_text t.text (row t i).ty ≡ true
  pub in_line : (row t i).entries_start ≡ line t i
  pub there : (row t i).entries_start + (row t i).entries_count ≤ length t.entries
  pub inside : next t i ≤ to
  pub bare : (row t i).block ≡ false → (row t i).below ≡ 0
  pub shallow : d ≤ 32

bare_of : (b : Bool) (n : ℕ) → (b || eqb n 0) ≡ true → b ≡ false → n ≡ 0
bare_of true n e f = absurd (false≢true (sym f))
bare_of false n e f = eqb-true n 0 e

pub fit : (t : Tables) (d i to : ℕ) → node_cause t d i to ≡ None → Fit t d i to
fit t d i to e =
    let r = row t i in
    let p₁ = let_through (in_text t.text r.name.part) _ _ e in
    let p₂ = let_through (perhaps_in_text t.text r.ty) _ _ p₁.1 in
    let p₃ = let_through (eqb r.entries_start (line t i) && leb (r.entries_start + r.entries_count) (length t.entries)) _ _ p₂.1 in
    let p₄ = let_through (leb (next t i) to && (r.block || eqb r.below 0)) _ _ p₃.1 in
    let p₅ = let_through (leb d 32) _ _ p₄.1 in
    let a = and_parts (eqb r.entries_start (line t i)) _ p₃.0 in
    let b = and_parts (leb (next t i) to) _ p₄.0 in
    record {
      name = p₁.0;
      type = p₂.0;
      in_line = eqb-true _ _ a.0;
      there = leb-true _ _ a.1;
      inside = leb-true _ _ b.0;
      bare = bare_of r.block r.below b.1;
      shallow = leb-true d 32 p₅.0;
    }

of_bare : (b : Bool) (n : ℕ) → (b ≡ false → n ≡ 0) → (b || eqb n 0) ≡ true
of_bare true n h = refl
of_bare false n h = eq-eqb n 0 (h refl)

pub unfit_not : (t : Tables) (d i to : ℕ) → Fit t d i to → node_cause t d i to ≡ None
unfit_not t d i to f =
    let r = row t i in
    cond-true (in_text t.text r.name.part) _ _ f.name
    ∙ cond-true (perhaps_in_text t.text r.ty) _ _ f.type
    ∙ cond-true (eqb r.entries_start (line t i) && leb (r.entries_start + r.entries_count) (length t.entries)) _ _ (and_from _ _ (eq-eqb _ _ f.in_line) (le-leb _ _ f.there))
    ∙ cond-true (leb (next t i) to && (r.block || eqb r.below 0)) _ _ (and_from _ _ (le-leb _ _ f.inside) (of_bare r.block r.below f.bare))
    ∙ cond-true (leb d 32) _ _ (le-leb _ _ f.shallow)

pub rows_none : (t : Tables) (f d i to : ℕ) → to ≤ i → rows t f d i to ≡ Ok nil
unfolding rows
rows_none t zero d i to h = refl
rows_none t (suc f) d i to h = cond-false (ltb i to) _ _ (le-ltb i to h)

-- the rows behind a sound row
abbrev pub behind : Tables → ℕ → ℕ → ℕ → ℕ → Result Nodes TableFault
behind t f d i to =
    and_then (rows t f (suc d) (i + 1) (next t i)) (λ inner.
    and_then (rows t f d (next t i) to) (λ rest.
    Ok (cons (node (record { number = i }) (head t (row t i)) (block_of (row t i).block inner)) rest)))

pub rows_some : (t : Tables) (f d i to : ℕ) → i < to → rows t (suc f) d i to ≡ and_then (judged Table.Nodes i (node_cause t d i to)) (λ _. behind t f d i to)
unfolding rows
rows_some t f d i to h = cond-true (ltb i to) _ _ (lt-ltb i to h)

-- rows that were read, taken apart at the first
pub record Opened (t : Tables) (less d i to : ℕ) (ns : Nodes) : Type 0 where
  pub inner : Nodes
  pub rest : Nodes
  pub fits : Fit t d i to
  pub inner_long : next t i ≤ i + 1 + less
  pub rest_long : to ≤ next t i + less
  pub inner_is : rows t less (suc d) (i + 1) (next t i) ≡ Ok inner
  pub rest_is : rows t less d (next t i) to ≡ Ok rest
  pub is : cons (node (record { number = i }) (head t (row t i)) (block_of (row t i).block inner)) rest ≡ ns

ok_same : {X E : Type 0} (x y : X) → ◌≡◌ {A = Result X E} (Ok x) (Ok y) → x ≡ y
ok_same x y e = cc

pub opened : (t : Tables) (f d i to : ℕ) (ns : Nodes) → i < to → to ≤ i + suc f → rows t (suc f) d i to ≡ Ok ns → Opened t f d i to ns
opened t f d i to ns lt enough e =
    let p₁ = passed (judged Table.Nodes i (node_cause t d i to)) (λ _. behind t f d i to) ns (sym (rows_some t f d i to lt) ∙ e) in
    let p₂ = passed (rows t f (suc d) (i + 1) (next t i)) _ ns p₁.then in
    let p₃ = passed (rows t f d (next t i) to) _ ns p₂.then in
    let w = fit t d i to (no_cause Table.Nodes i _ _ p₁.was) in
    let u = w.inside in
    record {
      inner = p₂.first;
      rest = p₃.first;
      fits = w;
      inner_long = omega arith;
      rest_long = omega arith;
      inner_is = p₂.was;
      rest_is = p₃.was;
      is = ok_same _ _ p₃.then;
    }

-- and put together
pub closed : (t : Tables) (f d i to : ℕ) (inner rest : Nodes) → i < to → Fit t d i to → rows t f (suc d) (i + 1) (next t i) ≡ Ok inner → rows t f d (next t i) to ≡ Ok rest
    → rows t (suc f) d i to ≡ Ok (cons (node (record { number = i }) (head t (row t i)) (block_of (row t i).block inner)) rest)
closed t f d i to inner rest lt w e₁ e₂ =
    rows_some t f d i to lt
    ∙ ap (λ o. and_then (judged Table.Nodes i o) (λ _. behind t f d i to)) (unfit_not t d i to w)
    ∙ ap (λ o. and_then o (λ ins. and_then (rows t f d (next t i) to) (λ more. Ok (cons (node (record { number = i }) (head t (row t i)) (block_of (row t i).block ins)) more)))) e₁
    ∙ ap (λ o. and_then o (λ more. Ok (cons (node (record { number = i }) (head t (row t i)) (block_of (row t i).block inner)) more))) e₂

-- r is what is said of the rows from i up to to, whatever bounds their count
abbrev pub Judges : Tables → ℕ → ℕ → ℕ → Result (Unit {0}) TableFault → Type 0
Judges t d i to r = (f : ℕ) → to ≤ i + f → r ≡ over (λ _. tt) (rows t f d i to)

pub judges_none : (t : Tables) (d i to : ℕ) → to ≤ i → Judges t d i to (Ok tt)
judges_none t d i to h f enough = ap (over (λ _. tt)) (sym (rows_none t f d i to h))

over_err : {X Y E : Type 0} (k : X → Y) (o : Result X E) (e : E) → Err e ≡ over k o → o ≡ Err e
over_err k (Ok x) e h = absurd (let z : ◌≡◌ {A = ℕ} 0 1 = cc in omega arith)
over_err k (Err x) e h = let s : x ≡ e = cc in ap Err s

pub record Read {X E : Type 0} (o : Result X E) : Type 0 where
  pub value : X
  pub is : o ≡ Ok value

pub over_ok : {X Y E : Type 0} (k : X → Y) (o : Result X E) (y : Y) → Ok y ≡ over k o → Read o
over_ok k (Ok x) y h = record { value = x; is = refl }
over_ok k (Err x) y h = absurd (let z : ◌≡◌ {A = ℕ} 0 1 = cc in omega arith)

pub judges_here : (t : Tables) (d i to : ℕ) (e : TableFault) → i < to → Err e ≡ judged Table.Nodes i (node_cause t d i to) → Judges t d i to (Err e)
judges_here t d i to e lt is zero enough = absurd (omega arith)
judges_here t d i to e lt is (suc f) enough =
    ap (λ o. over (λ _. tt) (and_then o (λ _. behind t f d i to))) is ∙ ap (over (λ _. tt)) (sym (rows_some t f d i to lt))

pub judges_in : (t : Tables) (d i to : ℕ) (e : TableFault) → i < to → Ok tt ≡ judged Table.Nodes i (node_cause t d i to) → Judges t (d + 1) (i + 1) (next t i) (Err e) → Judges t d i to (Err e)
judges_in t d i to e lt is inner zero enough = absurd (omega arith)
judges_in t d i to e lt is inner (suc f) enough =
    let w = fit t d i to (no_cause Table.Nodes i _ _ (sym is)) in
    let u = w.inside in
    let b = over_err (λ _. tt) (rows t f (suc d) (i + 1) (next t i)) e (inner f (omega arith) ∙ ap (λ n. over (λ _. tt) (rows t f n (i + 1) (next t i))) (add-one d)) in
    ap (λ o. over (λ _. tt) (and_then o (λ ins. and_then (rows t f d (next t i) to) (λ more. Ok (cons (node (record { number = i }) (head t (row t i)) (block_of (row t i).block ins)) more))))) (sym b)
    ∙ ap (λ o. over (λ _. tt) (and_then o (λ _. behind t f d i to))) is ∙ ap (over (λ _. tt)) (sym (rows_some t f d i to lt))

over_then : {X Y E : Type 0} (o : Result X E) (g : X → Y) (r : Result (Unit {0}) E) → r ≡ over (λ _. tt) o → r ≡ over (λ _. tt) (and_then o (λ x. Ok (g x)))
over_then (Ok x) g r e = e
over_then (Err x) g r e = e

pub judges_on : (t : Tables) (d i to : ℕ) (r : Result (Unit {0}) TableFault) → i < to → Ok tt ≡ judged Table.Nodes i (node_cause t d i to) → Judges t (d + 1) (i + 1) (next t i) (Ok tt) → Judges t d (next t i) to r → Judges t d i to r
judges_on t d i to r lt is inner rest zero enough = absurd (omega arith)
judges_on t d i to r lt is inner rest (suc f) enough =
    let w = fit t d i to (no_cause Table.Nodes i _ _ (sym is)) in
    let u = w.inside in
    let b = over_ok (λ _. tt) (rows t f (suc d) (i + 1) (next t i)) tt (inner f (omega arith) ∙ ap (λ n. over (λ _. tt) (rows t f n (i + 1) (next t i))) (add-one d)) in
    over_then (rows t f d (next t i) to) (λ more. cons (node (record { number = i }) (head t (row t i)) (block_of (row t i).block b.value)) more) r (rest f (omega arith))
    ∙ ap (λ o. over (λ _. tt) (and_then o (λ ins. and_then (rows t f d (next t i) to) (λ more. Ok (cons (node (record { number = i }) (head t (row t i)) (block_of (row t i).block ins)) more))))) (sym b.is)
    ∙ ap (λ o. over (λ _. tt) (and_then o (λ _. behind t f d i to))) is ∙ ap (over (λ _. tt)) (sym (rows_some t f d i to lt))

-- the same of entry rows: at row k, and behind it
pub entries_here : (t : Tables) (k : ℕ) (e : TableFault) → k < length t.entries → Err e ≡ judged Table.Entries k (entry_cause t k (entry_row t k)) → Err e ≡ entry_rows t k (drop k t.entries)
entries_here t k e lt is =
    ap (λ o. and_then o (λ _. entry_rows t (suc k) (drop (k + 1) t.entries))) is ∙ ap (entry_rows t k) (sym (drop_more t.entries k blank_entry lt))

pub entries_on : (t : Tables) (k : ℕ) → k < length t.entries → Ok tt ≡ judged Table.Entries k (entry_cause t k (entry_row t k)) → entry_rows t (k + 1) (drop (k + 1) t.entries) ≡ entry_rows t k (drop k t.entries)
entries_on t k lt is =
    ap (λ n. entry_rows t n (drop (k + 1) t.entries)) (add-one k)
    ∙ ap (λ o. and_then o (λ _. entry_rows t (suc k) (drop (k + 1) t.entries))) is ∙ ap (entry_rows t k) (sym (drop_more t.entries k blank_entry lt))

pub entries_none : (t : Tables) (k : ℕ) → length t.entries ≤ k → Ok tt ≡ entry_rows t k (drop k t.entries)
entries_none t k ge = ap (entry_rows t k) (sym (drop_all k t.entries ge))
