-- Layers of two parts.
use Rattle.std.specs.Prelude.{◌≡◌, ℕ, ◌+◌, Bool, true, false, Some, Option, MatchOption}
use Rattle.assembly.specs.declared.plans.Size.{Size}
use Rattle.assembly.specs.Meaning.{Meaning, void, plan, Plan, Proper, size_of, rows_of, laws_of, is_small}
use Rattle.layers.specs.declared.halves.Halves.{Halves}
use Rattle.layers.specs.declared.renumbering.Renumbering.{Renumbering}
use Rattle.layers.specs.Layer.{layer_if}
use Rattle.layers.specs.Joined.{joined_rows, joined_laws}

-- A layer over a void part is void. Else `meet` tells whether the ends meet, and `whole` is the plan.
abbrev pub layer_of_two : (Meaning → Meaning → Bool) → (Plan → Plan → Plan) → Meaning → Meaning → Meaning
layer_of_two meet whole void n = void
layer_of_two meet whole (plan a) void = void
layer_of_two meet whole (plan a) (plan b) = layer_if (meet (plan a) (plan b)) (whole a b)

-- What two parts have together, with the joints between them.
abbrev pub both_sizes : ℕ → Size → Size → Size
both_sizes joints a b = record {
  ends = 2;
  inner = a.inner + b.inner + joints;
  variables = a.variables + b.variables;
  rows = a.rows + b.rows;
  laws = a.laws + b.laws;
}

-- These are the sizes of two parts and of their layer, which is not too large.
pub record AreHalves (joints : ℕ) (a b : Size) (h : Halves) : Type 0 where
  pub first_is : h.first ≡ a
  pub second_is : h.second ≡ b
  pub whole_is : h.whole ≡ both_sizes joints a b
  pub small : is_small h.whole ≡ true

-- The sizes, or that the layer would be too large.
abbrev pub SmallHalves : ℕ → Size → Size → Option Halves → Type 0
SmallHalves joints a b r = MatchOption r (is_small (both_sizes joints a b) ≡ false) (AreHalves joints a b)

-- The first part lies between two nodes of the layer; its other things come first.
abbrev pub front_between : ℕ → ℕ → Size → Renumbering
front_between first second a = record {
  first = first;
  second = second;
  inner = a.inner;
  inner_from = 2;
  variables = a.variables;
  variables_from = 0;
}

-- The second part lies between two nodes of the layer; its other things come behind the first part's.
abbrev pub back_between : ℕ → ℕ → Size → Size → Renumbering
back_between first second a b = record {
  first = first;
  second = second;
  inner = b.inner;
  inner_from = 2 + a.inner;
  variables = b.variables;
  variables_from = a.variables;
}

-- The layer of the parts m and n is not void, and h tells what it and they have. The parts keep to their bounds.
pub record Halved (meet : Meaning → Meaning → Bool) (whole : Plan → Plan → Plan) (m n : Meaning) (h : Halves)
    : Type 0 where
  pub first_has : Some h.first ≡ size_of m
  pub second_has : Some h.second ≡ size_of n
  pub whole_has : Some h.whole ≡ size_of (layer_of_two meet whole m n)
  pub first_bounds : Proper m
  pub second_bounds : Proper n

-- What a layer of two parts knows of them: that it is void, or what it and they have.
abbrev pub ToldHalves : (Meaning → Meaning → Bool) → (Plan → Plan → Plan) → Meaning → Meaning → Option Halves → Type 0
ToldHalves meet whole m n r = MatchOption r (layer_of_two meet whole m n ≡ void) (Halved meet whole m n)

-- The layer w is that of the parts m and n, and its rows and laws are theirs, with these new numbers.
pub record Joins (meet : Meaning → Meaning → Bool) (whole : Plan → Plan → Plan) (m n w : Meaning) (h : Halves)
    (front back : Renumbering) : Type 0 where
  pub whole_is : layer_of_two meet whole m n ≡ w
  pub halved : Halved meet whole m n h
  pub rows_are : rows_of w ≡ joined_rows front back m n
  pub laws_are : laws_of w ≡ joined_laws front back m n
