-- What is kept of a set is its forms. Assumes nothing.
use Rattle.std.proofs.Common.{◌≡◌, ℕ, ◌+◌, ◌≤◌, min, List, [], ◌∷◌, length, Fits, w32, arith, slice_get, Some, None, Option, option_map, vec_items, vec_len, refl, sym, ap, ◌∙◌, Bor}
use Rattle.std.specs.Slice.{IsItemAt}
use Rattle.std.proofs.lemmas.Option.{slice_get_past, slice_get_read, slice_get-map}
use Rattle.std.specs.List.{fold}
use Rattle.records.proofs.Numbers.{bytes_from_are}
use Rattle.form_format.proofs.Whole.{lawful_set}
use Rattle.forms.specs.Forms.{form_or, name_at}
use mathlib.Core.Logic.{∥∥₁_elim}
use mathlib.Core.List.{is_set}
use base.Stored.{Coded-set}
use denote.Builtin.{u8}
use Rattle.std.proofs.lemmas.List.{length-map}
use Rattle.form_format.specs.Lent.{form_lent, forms_lent}
use Rattle.listed.specs.declared.held.ListedForms.{ListedForms}
use Rattle.listed.specs.Held.{meant}

pub forms_known : (t : ListedForms) → forms_lent t.forms ≡ meant t
forms_known t = ∥∥₁_elim t.kept (is_set (is_set (is_set (Coded-set u8.coded))) _ _) (λ e. e)

pub count_known : (t : ListedForms) → vec_len t.forms ≡ length (meant t)
count_known t = t.forms.ok.0 ∙ sym (length-map (vec_items t.forms) form_lent) ∙ ap length (forms_known t)

-- a count from k on, by one for each item, ends at k and their number, as far as a usize goes
one_by_one : {A : Type 0} (k : ℕ) (xs : List A) → k + length xs ≤ 18446744073709551615 → fold (λ n x. min (n + 1) 18446744073709551615) k xs ≡ k + length xs
one_by_one k [] h = omega arith
one_by_one k (x ∷ xs) h = ap (λ n. fold (λ n x. min (n + 1) 18446744073709551615) n xs) (omega arith) ∙ one_by_one (k + 1) xs (omega arith) ∙ omega arith

-- a count of the kept lists, by one for each, is the number of the forms
pub fold_known : (t : ListedForms) (n : ℕ) → n ≡ fold (λ n x. min (n + 1) 18446744073709551615) 0 (vec_items t.forms) → n ≡ length (meant t)
fold_known t n e =
    let few = (lawful_set t.bytes.now (bytes_from_are t.bytes.now t.typed)).few in
    let known = count_known t in
    let kept = t.forms.ok.0 in
    e ∙ one_by_one 0 (vec_items t.forms) (omega arith) ∙ omega arith

-- the number of the forms has 32 bits
pub fits_known : (t : ListedForms) (n : ℕ) → n ≡ length (meant t) → Fits w32 n
fits_known t n e = let few = (lawful_set t.bytes.now (bytes_from_are t.bytes.now t.typed)).few in omega arith

-- what is lent at i is what stands there
pub lent_at : {X : Type 0} (xs : List X) (i : ℕ) (r : Option (Bor X)) → IsItemAt xs i r → option_map (λ x. x.now) r ≡ slice_get xs i
lent_at xs i None h = sym (slice_get_past xs i h.3)
lent_at xs i (Some x) h = sym (slice_get_read xs (length xs) i x.now refl h.3.0 h.1)

-- the name at j of the form at i
pub name_kept : (t : ListedForms) (i j : ℕ) → name_at (meant t) i j ≡ slice_get (form_or (option_map form_lent (slice_get (vec_items t.forms) i))) j
name_kept t i j = ap (λ l. slice_get (form_or (slice_get l i)) j) (sym (forms_known t)) ∙ ap (λ o. slice_get (form_or o) j) (slice_get-map form_lent (vec_items t.forms) i)
