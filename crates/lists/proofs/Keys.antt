-- `same_key` tells whether two keys are one. Assumes nothing.
use Rattle.std.proofs.Common.{◌≡◌, ℕ, zero, suc, true, ◌&&◌, eqb, sym, refl, ap, ◌∙◌, subst}
use Rattle.std.proofs.lemmas.Bool.{and_parts, and_from, eqb-true, eq-eqb}
use Rattle.std.proofs.lemmas.Slice.Eq.{bytes_eq-Decides}
use Rattle.std.specs.Str.{bytes_eq}
use Rattle.forms.specs.Keys.{Kind, of_name, of_type, of_argument_type, of_argument, of_args, of_rest, of_at_property, of_at_property_type, of_property, of_group, of_omission, Key, rank, same_key}
use Rattle.lists.specs.Placement.{KeysTold}

abbrev unrank : ℕ → Kind
unrank zero = of_name
unrank (suc zero) = of_type
unrank (suc (suc zero)) = of_argument_type
unrank (suc (suc (suc zero))) = of_argument
unrank (suc (suc (suc (suc zero)))) = of_args
unrank (suc (suc (suc (suc (suc zero))))) = of_rest
unrank (suc (suc (suc (suc (suc (suc zero)))))) = of_at_property
unrank (suc (suc (suc (suc (suc (suc (suc zero))))))) = of_at_property_type
unrank (suc (suc (suc (suc (suc (suc (suc (suc zero)))))))) = of_property
unrank (suc (suc (suc (suc (suc (suc (suc (suc (suc zero))))))))) = of_group
unrank (suc (suc (suc (suc (suc (suc (suc (suc (suc (suc n)))))))))) = of_omission

ranked : (k : Kind) → unrank (rank k) ≡ k
ranked of_name = refl
ranked of_type = refl
ranked of_argument_type = refl
ranked of_argument = refl
ranked of_args = refl
ranked of_rest = refl
ranked of_at_property = refl
ranked of_at_property_type = refl
ranked of_property = refl
ranked of_group = refl
ranked of_omission = refl

same : (a b : Key) → same_key a b ≡ true → a ≡ b
same a b h =
    let h₁ = and_parts (eqb (rank a.kind) (rank b.kind)) (eqb a.number b.number && bytes_eq a.part b.part) h in
    let h₂ = and_parts (eqb a.number b.number) (bytes_eq a.part b.part) h₁.1 in
    let kinds : a.kind ≡ b.kind = sym (ranked a.kind) ∙ ap unrank (eqb-true (rank a.kind) (rank b.kind) h₁.0) ∙ ranked b.kind in
    let numbers : a.number ≡ b.number = eqb-true a.number b.number h₂.0 in
    let parts : a.part ≡ b.part = (bytes_eq-Decides a.part b.part).0 h₂.1 in
    λ i. record { kind = kinds i; number = numbers i; part = parts i }

itself : (a : Key) → same_key a a ≡ true
itself a =
    and_from (eqb (rank a.kind) (rank a.kind)) (eqb a.number a.number && bytes_eq a.part a.part) (eq-eqb (rank a.kind) (rank a.kind) refl)
    (and_from (eqb a.number a.number) (bytes_eq a.part a.part) (eq-eqb a.number a.number refl) ((bytes_eq-Decides a.part a.part).1 refl))

pub told : KeysTold
told a b = (same a b, λ e. subst (λ (k : Key). same_key a k ≡ true) e (itself a))
