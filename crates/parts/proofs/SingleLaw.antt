-- A single keeps to the bounds of a plan.
use Rattle.std.proofs.Common.{◌≡◌, ◌≤◌, true, List, [], ◌∷◌, map, length, filter, refl, arith}
use Rattle.std.proofs.lemmas.Bool.{cond_both}
use Rattle.std.proofs.lemmas.List.Sums.{length-filter, count_by-le-length}
use Rattle.netlist.specs.Sound.{is_domain, is_term_count}
use Rattle.std.specs.List.{list_all}
use Rattle.netlist.specs.Limits.{most_terms_of_law}
use Rattle.assembly.specs.Plans.{PlanTerm, most_of_plan}
use Rattle.assembly.specs.Meaning.{Bounded, Proper, void, plan}
use Rattle.parts.specs.declared.single.Single.{Single}
use Rattle.parts.specs.Single.{is_counted, offered, law_with, single, single_plan}

-- at most one law, of one to eight terms
one_law : (ts : List PlanTerm) → length ts ≤ most_terms_of_law → (length (law_with ts) ≤ most_of_plan) × (list_all is_term_count (map length (law_with ts)) ≡ true)
one_law [] few = (omega arith, refl)
one_law (t ∷ ts) few = (omega arith, grind arith)

pub proper_single : (s : Single) → Proper (single s)
proper_single s = cond_both (is_domain s.domain) (plan (single_plan s)) void Proper (λ e. bounded) (λ e. tt)
  where
    law : (length (law_with (filter is_counted (offered s))) ≤ most_of_plan) × (list_all is_term_count (map length (law_with (filter is_counted (offered s)))) ≡ true)
    law = one_law (filter is_counted (offered s)) (omega (arith, length-filter is_counted (offered s), count_by-le-length is_counted (offered s)))

    bounded : Bounded (single_plan s)
    bounded = record { two_ends = refl; few_inner = omega arith; few_variables = omega arith; few_rows = omega arith; few_laws = law.0; law_lengths = law.1 }
