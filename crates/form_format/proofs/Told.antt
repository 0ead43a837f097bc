-- What the check and the making answer, from what a sink was told. Assumes nothing.
use Rattle.std.proofs.Common.{◌≡◌, ℕ, ◌+◌, ◌*◌, ◌≤◌, min, List, [], ◌∷◌, ◌++◌, length, Ok, Err, Result, sym, refl, ap, ◌∙◌, arith}
use Rattle.std.specs.List.{AllByRecursion}
use Rattle.tree.specs.Outcome.{over}
use Rattle.records.specs.Numbers.{Bytes}
use Rattle.records.specs.Places.{Read}
use Rattle.records.specs.declared.fault.RecordFault.{RecordFault}
use Rattle.records.proofs.Results.{err_ok, ok_ok}
use Rattle.forms.specs.Forms.{Form}
use Rattle.form_format.specs.Reading.{set_in, held, forms_in}
use Rattle.form_format.specs.Law.{FormFits, names_count, counts_of, Accepts}
use Rattle.form_format.specs.declared.counts.FormCounts.{FormCounts}
use Rattle.form_format.proofs.Whole.{accepted, complete}

pub accepts : (bs : List ℕ) (r : Result FormCounts RecordFault) → Bytes bs → r ≡ over counts_of (set_in bs) → Accepts bs r
accepts bs r b e = go (set_in bs) refl r e
  where
    go : (o : Read (List Form)) → set_in bs ≡ o → (r : Result FormCounts RecordFault) → r ≡ over counts_of o → Accepts bs r
    go (Ok fs) is (Ok c) h = (fs, accepted bs fs b is, ok_ok h)
    go (Ok fs) is (Err x) h = err_ok x _ h
    go (Err x) is (Ok c) h = err_ok x c (sym h)
    go (Err x) is (Err y) h = λ fs l. err_ok x fs (sym is ∙ complete bs fs l)

-- there are few names
few_names : (fs : List Form) → AllByRecursion FormFits fs → names_count fs ≤ 256 * length fs
few_names [] h = omega arith
few_names (f ∷ fs) h = let few = h.0.few in let k = few_names fs h.1 in omega arith

pub told_counts : (bs : List ℕ) (b : Bytes bs) (fs : List Form) (n m : ℕ) → Ok fs ≡ set_in bs → n ≡ min (length fs) 4294967295 → m ≡ min (names_count fs + 0) 4294967295
    → Ok (record { forms = n; names = m }) ≡ over counts_of (set_in bs)
told_counts bs b fs n m h forms names =
    let x = accepted bs fs b (sym h) in
    let few = x.few in
    let k = few_names fs x.forms in
    let p : n ≡ length fs = omega arith in
    let q : m ≡ names_count fs = omega arith in
    (λ i. Ok (record { forms = p i; names = q i })) ∙ ap (over counts_of) h

pub told_fault : (bs : List ℕ) (c : RecordFault) → Err c ≡ set_in bs → Err c ≡ over counts_of (set_in bs)
told_fault bs c h = ap (over counts_of) h

-- what a keeper was told is the list of forms that are made of the bytes
pub told_forms : (bs : List ℕ) (fs gs : List Form) → Ok fs ≡ set_in bs → gs ≡ fs → gs ≡ forms_in bs
told_forms bs fs gs h e = e ∙ ap held h

-- one form more has its names more
pub count_more : (fs : List Form) (f : Form) → names_count (fs ++ f ∷ []) ≡ names_count fs + length f
count_more [] f = omega arith
count_more (g ∷ fs) f = let h = count_more fs f in omega arith

-- unsound bytes make no forms
pub no_forms : (bs : List ℕ) (c : RecordFault) → Err c ≡ set_in bs → [] ≡ forms_in bs
no_forms bs c h = ap held h
