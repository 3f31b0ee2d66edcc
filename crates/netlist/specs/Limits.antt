-- How much a netlist may have of each thing, and what a law's coefficients and terms keep to.
use Rattle.std.specs.Prelude.{ℕ, Bool, ◌||◌, ℤ, ◌==◌, nat_lt, unsigned_abs}

abbrev pub most_nodes : ℕ
most_nodes = 1000

abbrev pub most_variables : ℕ
most_variables = 4000

abbrev pub most_rows : ℕ
most_rows = 1500

abbrev pub most_laws : ℕ
most_laws = 1500

-- of all laws together
abbrev pub most_terms : ℕ
most_terms = 6000

abbrev pub most_terms_of_law : ℕ
most_terms_of_law = 8

abbrev pub largest_coefficient : ℕ
largest_coefficient = 1000000

-- a coefficient that no term may have
abbrev pub no_coefficient : ℤ → Bool
no_coefficient c = unsigned_abs c == 0 || nat_lt largest_coefficient (unsigned_abs c)

-- a number of terms that no law may have
abbrev pub no_term_count : ℕ → Bool
no_term_count n = n == 0 || nat_lt most_terms_of_law n
