-- Sizes, and when they are small.
use Rattle.std.proofs.Common.{◌≡◌, ℕ, ◌≤◌, true, map, length, arith}
use Rattle.std.proofs.lemmas.Bool.Decides.{nat_tests}
use Rattle.assembly.specs.declared.plans.Size.{Size}
use Rattle.netlist.specs.Sound.{is_term_count}
use Rattle.std.specs.List.{list_all}
use Rattle.assembly.specs.Plans.{most_of_plan}
use Rattle.assembly.specs.Meaning.{is_small, Plan, Bounded, size_in}

abbrev pub size_with : ℕ → ℕ → ℕ → ℕ → ℕ → Size
size_with e i v r l = record { ends = e; inner = i; variables = v; rows = r; laws = l }

pub record Bounds (n : Size) : Type 0 where
  pub nodes : n.inner ≤ most_of_plan
  pub variables : n.variables ≤ most_of_plan
  pub rows : n.rows ≤ most_of_plan
  pub laws : n.laws ≤ most_of_plan

pub small_bounds : (n : Size) → is_small n ≡ true → Bounds n
small_bounds n e = grind (arith, nat_tests)

pub small_from : (n : Size) → Bounds n → is_small n ≡ true
small_from n b = grind (arith, nat_tests)

-- A plan of two ends whose size is small, and whose laws are not too long, keeps to the bounds of a plan.
pub bounded : (p : Plan) → length p.ends ≡ 2 → is_small (size_in p) ≡ true → list_all is_term_count (map length p.laws) ≡ true → Bounded p
bounded p two small lengths =
    let t = small_bounds (size_in p) small in
    record {
      two_ends = two;
      few_inner = t.nodes;
      few_variables = t.variables;
      few_rows = t.rows;
      few_laws = t.laws;
      law_lengths = lengths;
    }
