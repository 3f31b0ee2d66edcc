-- What a plan in tables means.
use Rattle.std.specs.Prelude.{ℕ, ◌+◌, Bool, cond, ◌&&◌, List, [], ◌∷◌, map, length, take, drop, ◌==◌}
use Rattle.netlist.specs.declared.spans.Span.{Span}
use Rattle.netlist.specs.Sound.{is_domain, is_term_count}
use Rattle.std.specs.List.{list_all}
use Rattle.assembly.specs.Plans.{PlanTerm}
use Rattle.assembly.specs.declared.plans.Size.{Size}
use Rattle.assembly.specs.Meaning.{Meaning, void, plan, Plan, is_small}
use Rattle.parts.specs.declared.tables.Tables.{Tables}
use Rattle.parts.specs.Numbers.{domain_at}

-- how much the tables have of each thing
abbrev pub size_told : Tables → Size
size_told t = record {
  ends = 2;
  inner = length t.inner.now;
  variables = t.variables;
  rows = length t.rows.now;
  laws = length t.laws.now;
}

-- the part begins at this place, and has one to eight terms
abbrev pub begins : ℕ → Span → Bool
begins at s = s.offset == at && is_term_count s.length

-- From place at on, each part begins where the one before it ends, and the last ends at n.
abbrev pub fill : ℕ → List Span → ℕ → Bool
fill at [] n = at == n
fill at (s ∷ ss) n = begins at s && fill (at + s.length) ss n

-- Not too much of anything, domains by their numbers, and laws that fill the table of terms.
abbrev pub is_sound : Tables → Bool
is_sound t =
    is_small (size_told t)
    && (is_domain t.first
    && (is_domain t.second
    && (list_all is_domain t.inner.now
    && fill 0 t.laws.now (length t.terms.now))))

-- the terms of a law, as its part of the table has them
abbrev pub law_in : List PlanTerm → Span → List PlanTerm
law_in terms s = take s.length (drop s.offset terms)

-- the plan that stands in the tables
abbrev pub plan_of : Tables → Plan
plan_of t = record {
  ends = domain_at t.first ∷ domain_at t.second ∷ [];
  inner = map domain_at t.inner.now;
  variables = t.variables;
  rows = t.rows.now;
  laws = map (law_in t.terms.now) t.laws.now;
}

-- Sound tables are a plan as they stand, and any others are void.
abbrev pub stored : Tables → Meaning
stored t = cond (is_sound t) (plan (plan_of t)) void
