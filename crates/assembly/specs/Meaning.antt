-- What an assembly means: void, or a plan; and what each query tells of it.
use Rattle.std.specs.Prelude.{◌≡◌, ℕ, ◌≤◌, Bool, true, false, ◌&&◌, List, [], ◌++◌, map, length, nat_le}
use Rattle.std.specs.Prelude.{Some, None, Option, slice_index_or}
use Rattle.netlist.specs.declared.domains.Domain.{Domain}
use Rattle.netlist.specs.Sound.{is_term_count}
use Rattle.std.specs.List.{list_all}
use Rattle.assembly.specs.Plans.{PlanRow, PlanTerm, most_of_plan}
use Rattle.assembly.specs.declared.plans.Size.{Size}

-- The domains of the ends and of the inner nodes, the number of variables, the rows and the laws. The
-- nodes are numbered ends first, then inner nodes. Rows and laws may name what the plan lacks.
pub record Plan : Type 0 where
  pub ends : List Domain
  pub inner : List Domain
  pub variables : ℕ
  pub rows : List PlanRow
  pub laws : List (List PlanTerm)

pub data Meaning : Type 0 where
  void : Meaning
  plan : Plan → Meaning

-- the bounds of a plan
pub record Bounded (p : Plan) : Type 0 where
  pub two_ends : length p.ends ≡ 2
  pub few_inner : length p.inner ≤ most_of_plan
  pub few_variables : p.variables ≤ most_of_plan
  pub few_rows : length p.rows ≤ most_of_plan
  pub few_laws : length p.laws ≤ most_of_plan
  -- each law has one to eight terms
  pub law_lengths : list_all is_term_count (map length p.laws) ≡ true

-- no count is above the limit
abbrev pub is_small : Size → Bool
is_small n =
    nat_le n.inner most_of_plan
    && (nat_le n.variables most_of_plan && (nat_le n.rows most_of_plan && nat_le n.laws most_of_plan))

abbrev pub Proper : Meaning → Type 0
Proper void = Unit {0}
Proper (plan p) = Bounded p

abbrev pub is_void : Meaning → Bool
is_void void = true
is_void (plan p) = false

abbrev pub size_in : Plan → Size
size_in p = record {
  ends = length p.ends;
  inner = length p.inner;
  variables = p.variables;
  rows = length p.rows;
  laws = length p.laws;
}

abbrev pub size_of : Meaning → Option Size
size_of void = None
size_of (plan p) = Some (size_in p)

-- the domains of the nodes, in their order
abbrev pub domains_of : Meaning → List Domain
domains_of void = []
domains_of (plan p) = p.ends ++ p.inner

abbrev pub rows_of : Meaning → List PlanRow
rows_of void = []
rows_of (plan p) = p.rows

abbrev pub laws_of : Meaning → List (List PlanTerm)
laws_of void = []
laws_of (plan p) = p.laws

-- the terms of law k; none past the last law
abbrev pub terms_of : Meaning → ℕ → List PlanTerm
terms_of m k = slice_index_or (laws_of m) k []
