-- Rows that are judged fit name drawn nodes only.
use Rattle.std.proofs.Common.{◌≡◌, ℕ, ◌+◌, ◌<◌, ◌≤◌, false, not, ◌&&◌, nat_lt, List, length, Ok, arith}
use Rattle.std.specs.List.{position_or_len}
use Rattle.std.proofs.lemmas.Bool.Decides.{nat_tests}
use Rattle.std.proofs.lemmas.List.Sums.{fails_before_first}
use Rattle.netlist.specs.declared.rows.Row.{Row}
use Rattle.netlist.specs.declared.rows.Row.TheVariants.{Branch, Earth}
use Rattle.network.specs.Walks.{no_row, row_at, tail_of, head_of, Drawn}
use Rattle.walk_test.specs.Drawn.{judged}
use Rattle.netlist.specs.Rows.{stands_on}

both_below : (a b n : ℕ) → not (nat_lt a n && nat_lt b n) ≡ false → (a + 1 < n + 1) × (b + 1 < n + 1)
both_below a b n e = grind (arith, nat_tests)

below : (a n : ℕ) → not (nat_lt a n) ≡ false → (a + 1 < n + 1) × (0 < n + 1)
below a n e = grind (arith, nat_tests)

drawn_ends : (n : ℕ) (row : Row ℕ) → not (stands_on n row) ≡ false → (tail_of row < n + 1) × (head_of row < n + 1)
drawn_ends n (Branch flow across first second) e = both_below first second n e
drawn_ends n (Earth flow across node) e = below node n e

-- the search for an undrawn row came to the end
none_undrawn : (rows : List (Row ℕ)) (n : ℕ) → judged rows n ≡ Ok tt → length rows ≤ position_or_len (λ row. not (stands_on n row)) rows
none_undrawn rows n e = grind (arith, nat_tests)

pub fit_drawn : (rows : List (Row ℕ)) (n : ℕ) → judged rows n ≡ Ok tt → Drawn rows n
fit_drawn rows n e j l =
    drawn_ends n (row_at rows j) (fails_before_first (λ row. not (stands_on n row)) rows j no_row (omega (arith, none_undrawn rows n e)))
