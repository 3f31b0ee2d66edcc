-- What holds of every netlist that can be drawn.
use Rattle.std.specs.Prelude.{◌≡◌, ℕ, ◌<◌, ◌≤◌, Bool, true, not, ◌&&◌, List, [], length, ◌==◌, nat_lt, slice_index, slice_index_or}
use Rattle.std.specs.List.{list_all}
use Rattle.netlist.specs.declared.rows.Row.{Row}
use Rattle.netlist.specs.declared.rows.Row.TheVariants.{Branch, Earth}
use Rattle.netlist.specs.declared.terms.Term.{Term}
use Rattle.netlist.specs.Domains.{no_domain}
use Rattle.netlist.specs.Limits.{most_nodes, most_variables, most_rows, most_laws, most_terms, no_coefficient, no_term_count}
use Rattle.netlist.specs.Netlist.{Netlist, term_count}
use Rattle.netlist.specs.Rows.{uses}

abbrev pub is_domain : ℕ → Bool
is_domain d = not (no_domain d)

-- the row names nodes that are drawn, a branch two of one domain
abbrev pub joins : List ℕ → Row ℕ → Bool
joins domains (Branch flow across first second) =
    nat_lt first (length domains)
    && (nat_lt second (length domains) && slice_index domains first == slice_index domains second)
joins domains (Earth flow across node) = nat_lt node (length domains)

-- the term names one of the variables 0 to n - 1
abbrev pub names : ℕ → Term → Bool
names n t = nat_lt t.variable n

-- its coefficient is not 0, and not too large
abbrev pub is_sized : Term → Bool
is_sized t = not (no_coefficient t.coefficient)

abbrev pub is_term_count : ℕ → Bool
is_term_count n = not (no_term_count n)

-- no table is past its limit
pub record Within (b : Netlist) : Type 0 where
  pub nodes : length b.domains ≤ most_nodes
  pub variables : b.variables ≤ most_variables
  pub rows : length b.rows ≤ most_rows
  pub laws : length b.laws ≤ most_laws
  pub terms : term_count b.laws ≤ most_terms

-- what a law keeps to, over variables 0 to n - 1
pub record Lawful (n : ℕ) (law : List Term) : Type 0 where
  pub count : is_term_count (length law) ≡ true
  pub named : list_all (names n) law ≡ true
  pub sized : list_all is_sized law ≡ true

pub record Sound (b : Netlist) : Type 0 where
  -- every domain is one of the four
  pub domains : list_all is_domain b.domains ≡ true
  -- each row names drawn nodes, a branch two of one domain
  pub joined : list_all (joins b.domains) b.rows ≡ true
  -- no variable is taken twice
  pub once : (v : ℕ) → uses b.rows v ≤ 1
  -- and none that is not drawn
  pub drawn : (v : ℕ) → b.variables ≤ v → uses b.rows v ≡ 0
  -- each law keeps to its bounds, and names drawn variables
  pub laws : (k : ℕ) → k < length b.laws → Lawful b.variables (slice_index_or b.laws k [])
  pub within : Within b
