-- What one branch with at most one law means.
use Rattle.std.specs.Prelude.{ℕ, Bool, true, cond, List, [], ◌∷◌, ℤ, pos, negsuc, filter, nat_lt}
use Rattle.netlist.specs.Sound.{is_domain}
use Rattle.netlist.specs.declared.rows.Row.TheVariants.{Branch}
use Rattle.assembly.specs.Plans.{PlanTerm}
use Rattle.assembly.specs.Meaning.{Meaning, void, plan, Plan}
use Rattle.parts.specs.declared.single.Single.{Single}
use Rattle.parts.specs.Numbers.{domain_at}

abbrev pub nonzero : ℤ → Bool
nonzero (pos n) = nat_lt 0 n
nonzero (negsuc n) = true

-- a term counts unless its coefficient is zero
abbrev pub is_counted : PlanTerm → Bool
is_counted t = nonzero t.coefficient

abbrev term_of : ℤ → ℕ → ℕ → PlanTerm
term_of c o v = record { coefficient = c; order = o; variable = v }

-- the value of the flow and of the across, then the rate of each
abbrev pub offered : Single → List PlanTerm
offered s = term_of s.flow 0 0 ∷ term_of s.across 0 1 ∷ term_of s.flow_rate 1 0 ∷ term_of s.across_rate 1 1 ∷ []

-- a law without terms is no law
abbrev pub law_with : List PlanTerm → List (List PlanTerm)
law_with [] = []
law_with (t ∷ ts) = (t ∷ ts) ∷ []

-- one branch from the first end to the second; variable 0 is its flow, variable 1 its across
abbrev pub single_plan : Single → Plan
single_plan s = record {
  ends = domain_at s.domain ∷ domain_at s.domain ∷ [];
  inner = [];
  variables = 2;
  rows = Branch 0 1 0 1 ∷ [];
  laws = law_with (filter is_counted (offered s));
}

abbrev pub single : Single → Meaning
single s = cond (is_domain s.domain) (plan (single_plan s)) void
