-- Laws that pass their tables, also where their variables have other numbers.
use Rattle.std.proofs.Common.{◌≡◌, ℕ, ◌+◌, ◌<◌, List, [], ◌∷◌, map, length, None, Option, refl, ap, ◌∙◌}
use Rattle.std.specs.List.{AllByRecursion}
use Rattle.std.specs.Option.{option_map, option_or}
use Rattle.std.proofs.lemmas.Bool.{leb-false, lt-leb}
use Rattle.draft.specs.declared.refusals.DraftRefusal.{DraftRefusal}
use Rattle.draft.specs.declared.refusals.DraftRefusal.TheVariants.{TermCount}
use Rattle.plan_judging.specs.declared.refusals.PlaceRefusal.{PlaceRefusal}
use Rattle.plan_judging.specs.declared.refusals.PlaceRefusal.TheVariants.{Law as LawRefused}
use Rattle.draft.specs.Rules.{table_term, table_terms, table_law}
use Rattle.netlist.specs.Limits.{no_term_count}
use Rattle.refusal.specs.Tests.{first_of}
use Rattle.refusal.proofs.Tables.{passes, passes_line, parts, passed_over}
use Rattle.assembly.specs.Plans.{PlanTerm}
use Rattle.plan_judging.specs.Alone.{judge_laws}
use Rattle.assembly_laws.proofs.Passing.{neither, unmapped, all_pass}
use Rattle.assembly_laws.proofs.Renamed.{all_mapped, all_map, all_weaker, map_same}

abbrev pub LawPasses : ℕ → List PlanTerm → Type 0
LawPasses n law = first_of (table_law n law) ≡ None

pub laws_pass : (n k : ℕ) (laws : List (List PlanTerm)) → judge_laws n k laws ≡ None → AllByRecursion (LawPasses n) laws
laws_pass n k [] h = tt
laws_pass n k (law ∷ laws) h =
    let why : DraftRefusal → PlaceRefusal = λ why. LawRefused k why in
    let p = neither (option_map why (first_of (table_law n law))) (judge_laws n (k + 1) laws) h in
    (unmapped why _ p.0, laws_pass n (k + 1) laws p.1)

pub laws_judged : (n k : ℕ) (laws : List (List PlanTerm)) → AllByRecursion (LawPasses n) laws → judge_laws n k laws ≡ None
laws_judged n k [] h = refl
laws_judged n k (law ∷ laws) h =
    let why : DraftRefusal → PlaceRefusal = λ why. LawRefused k why in
    ap (λ (o : Option DraftRefusal). option_or (option_map why o) (judge_laws n (k + 1) laws)) h.0 ∙ laws_judged n (k + 1) laws h.1

-- the terms of a law name variables 0 to n - 1
abbrev pub Of : ℕ → List PlanTerm → Type 0
Of n law = AllByRecursion (λ t. t.variable < n) law

terms_of_bound : (n i : ℕ) (ts : List PlanTerm) → first_of (table_terms n i ts) ≡ None → Of n ts
terms_of_bound n i [] h = tt
terms_of_bound n i (t ∷ ts) h =
    let p = parts (table_term n i t) (table_terms n (i + 1) ts) h in
    (leb-false _ _ (passes (table_term n i t) p.0).1.1.0, terms_of_bound n (i + 1) ts p.1)

terms_still : (n m i : ℕ) (ts : List PlanTerm) → first_of (table_terms n i ts) ≡ None → Of m ts → first_of (table_terms m i ts) ≡ None
terms_still n m i [] h k = refl
terms_still n m i (t ∷ ts) h k =
    let p = parts (table_term n i t) (table_terms n (i + 1) ts) h in
    let q = passes (table_term n i t) p.0 in
    passed_over (table_term m i t) (table_terms m (i + 1) ts) (all_pass (table_term m i t) (q.0, (q.1.0, (lt-leb _ _ k.0, tt))))
    ∙ terms_still n m (i + 1) ts p.1 k.1

law_named : (n : ℕ) (law : List PlanTerm) → LawPasses n law → Of n law
law_named n law h = terms_of_bound n 1 law (passes_line (no_term_count (length law)) TermCount (first_of (table_terms n 1 law)) h).1

law_still : (n m : ℕ) (law : List PlanTerm) → LawPasses n law → Of m law → LawPasses m law
law_still n m law h k =
    let p = passes_line (no_term_count (length law)) TermCount (first_of (table_terms n 1 law)) h in
    passed_over ((no_term_count (length law), TermCount) ∷ []) (table_terms m 1 law) (all_pass ((no_term_count (length law), TermCount) ∷ []) (p.0, tt))
    ∙ terms_still n m 1 law p.1 k

-- a term with another number for its variable
abbrev pub term_as : (ℕ → ℕ) → PlanTerm → PlanTerm
term_as f t = record { coefficient = t.coefficient; order = t.order; variable = f t.variable }

abbrev pub laws_as : (ℕ → ℕ) → List (List PlanTerm) → List (List PlanTerm)
laws_as f laws = map (map (term_as f)) laws

pub laws_twice : (f g : ℕ → ℕ) (laws : List (List PlanTerm)) → laws_as g (laws_as f laws) ≡ laws_as (λ v. g (f v)) laws
laws_twice f g [] = refl
laws_twice f g (law ∷ laws) = (λ i. terms law i ∷ laws_twice f g laws i)
  where
    terms : (ts : List PlanTerm) → map (term_as g) (map (term_as f) ts) ≡ map (term_as (λ v. g (f v))) ts
    terms [] = refl
    terms (t ∷ ts) = (λ i. term_as (λ v. g (f v)) t ∷ terms ts i)

module _ (f g : ℕ → ℕ) (n : ℕ) (agree : (v : ℕ) → v < n → f v ≡ g v) where
  pub laws_same : (laws : List (List PlanTerm)) → AllByRecursion (Of n) laws → laws_as f laws ≡ laws_as g laws
  laws_same laws h =
      map_same (map (term_as f)) (map (term_as g)) (Of n)
      (λ law k. map_same (term_as f) (term_as g) (λ t. t.variable < n) (λ t l i. record { coefficient = t.coefficient; order = t.order; variable = agree t.variable l i }) law k)
      laws h

-- laws name what the plan has, if only that gets a number within bounds
pub laws_named : (f : ℕ → ℕ) (n m : ℕ) → ((v : ℕ) → f v < m → v < n) → (laws : List (List PlanTerm)) → AllByRecursion (LawPasses m) (laws_as f laws) → AllByRecursion (Of n) laws
laws_named f n m back laws h =
    all_weaker (λ law. LawPasses m (map (term_as f) law)) (Of n)
    (λ law k. all_weaker (λ t. f t.variable < m) (λ t. t.variable < n) (λ t l. back t.variable l) law (all_mapped (term_as f) (λ t. t.variable < m) law (law_named m (map (term_as f) law) k)))
    laws (all_mapped (map (term_as f)) (LawPasses m) laws h)

-- and they still pass where fewer variables are drawn, if they name no others
pub laws_still : (f : ℕ → ℕ) (n m m' : ℕ) → ((v : ℕ) → v < n → f v < m') → (laws : List (List PlanTerm)) → AllByRecursion (Of n) laws → AllByRecursion (LawPasses m) (laws_as f laws) → AllByRecursion (LawPasses m') (laws_as f laws)
laws_still f n m m' within [] k h = tt
laws_still f n m m' within (law ∷ laws) k h =
    (law_still m m' (map (term_as f) law) h.0 (all_map (term_as f) (λ t. t.variable < m') law (all_weaker (λ t. t.variable < n) (λ t. f t.variable < m') (λ t l. within t.variable l) law k.0)), laws_still f n m m' within laws k.1 h.1)
