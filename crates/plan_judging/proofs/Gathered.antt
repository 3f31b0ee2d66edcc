-- A law that is gathered, and how many terms there are.
use Rattle.std.proofs.Common.{◌≡◌, ℕ, ◌+◌, ◌≤◌, true, List, [], ◌∷◌, ◌++◌, length, get_or, take, Some, ⊎_elim, sym, refl, ap, ◌∙◌, arith}
use Rattle.std.specs.List.{slice_get}
use Rattle.std.proofs.lemmas.Bool.{not-true, ltb-false, or_parts, cases_lt}
use Rattle.std.proofs.lemmas.List.{take_all, length-map, get_or_past}
use Rattle.netlist.specs.declared.terms.RawTerm.{RawTerm}
use Rattle.netlist.specs.Limits.{most_terms_of_law}
use Rattle.netlist.specs.Netlist.{term_count}
use Rattle.netlist.specs.Sound.{is_term_count}
use Rattle.netlist.proofs.Every.{every_at, every_map}
use Rattle.assembly.specs.Meaning.{Meaning, void, plan, Proper, terms_of}
use Rattle.plan_judging.specs.Terms.{counted_on, law_from}
use Rattle.plan_judging.proofs.Turns.{take_place}

pub count_push : {X : Type 0} (laws : List (List X)) (law : List X) → term_count (laws ++ law ∷ []) ≡ term_count laws + length law
count_push [] law = omega arith
count_push (first ∷ laws) law = omega (arith, count_push laws law)

-- one law more
pub count_next : {X : Type 0} (laws : List (List X)) (k : ℕ) (law : List X) → slice_get laws k ≡ Some law → term_count (take (k + 1) laws) ≡ term_count (take k laws) + length law
count_next {X} laws k law h = ap (λ (xs : List (List X)). term_count xs) (take_place laws k law h) ∙ count_push (take k laws) law

-- counted on by nothing, a law is itself
pub law_from_start : (law : List (RawTerm ℕ)) → law_from 0 law ≡ law
law_from_start [] = refl
law_from_start (t ∷ law) =
    let same : 0 + t.variable ≡ t.variable = omega arith in
    λ i. record { coefficient = t.coefficient; order = t.order; variable = same i } ∷ law_from_start law i

-- a law of a plan has no more than eight terms
pub few_terms : (n : ℕ) → is_term_count n ≡ true → n ≤ most_terms_of_law
few_terms n h = ltb-false 8 n (or_parts _ _ (not-true _ h)).1

pub few : (m : Meaning) (k : ℕ) → Proper m → length (terms_of m k) ≤ most_terms_of_law
few void k proper = omega arith
few (plan p) k proper =
    ⊎_elim
    (λ h. few_terms (length (get_or p.laws k [])) (every_at (λ law. is_term_count (length law)) p.laws k [] h (sym (every_map is_term_count length p.laws) ∙ proper.law_lengths)))
    (λ h. let none = ap length (get_or_past p.laws k [] h) in omega (arith, none))
    (cases_lt k (length p.laws))

-- so the first eight terms of a law of a plan are the law
pub gathered_law : (m : Meaning) (k : ℕ) → Proper m → take most_terms_of_law (law_from 0 (terms_of m k)) ≡ terms_of m k
gathered_law m k proper =
    let law = terms_of m k in
    take_all 8 (law_from 0 law) (omega (arith, length-map law (counted_on 0), few m k proper)) ∙ law_from_start law
