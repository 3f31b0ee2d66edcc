-- Sets of nodes: how a test tells one, and the excesses of its nodes.
use Rattle.std.specs.Prelude.{◌≡◌, ℕ, ◌<◌, ◌^◌, Bool, cond, List}
use Rattle.quantity.specs.Group.{Group}
use Rattle.netlist.specs.declared.rows.Row.{Row}
use Rattle.network.specs.Flows.{sum_below, excess}

-- the test answers of every number of a node whether it is in the set
abbrev pub IsTestOf : (ℕ → Bool) → (ℕ → Bool → Type 0) → Type 0
IsTestOf inside answers = (u : ℕ) (answer : Bool) → u < 2 ^ 64 → answers u answer → answer ≡ inside u

-- the excesses of those of nodes 0 to n - 1 that are in the set, added up
abbrev pub excesses : {G : Type 0} → Group G → List (Row ℕ) → List G → (ℕ → Bool) → ℕ → G
excesses 𝓖 rows values inside n = sum_below 𝓖 n (λ u. cond (inside u) (excess 𝓖 rows values u) 𝓖.zero)
