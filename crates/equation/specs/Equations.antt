-- The equations of a netlist, each a list of terms that add up to zero.
use Rattle.std.specs.Prelude.{ℕ, ◌+◌, cond, List, [], ◌∷◌, ◌++◌, map, length, pos, negsuc, Some, None, Option, ◌==◌}
use Rattle.std.specs.List.{range_with_len, flat_map}
use Rattle.std.specs.Option.{option_to_list}
use Rattle.netlist.specs.declared.rows.Row.{Row}
use Rattle.netlist.specs.declared.rows.Row.TheVariants.{Branch, Earth}
use Rattle.netlist.specs.declared.terms.Order.TheVariants.{Value}
use Rattle.netlist.specs.declared.terms.Term.{Term}
use Rattle.netlist.specs.Netlist.{Netlist}

-- +1 and -1 times a value; negsuc 0 is the integer -1
abbrev pub plus : ℕ → Term
plus v = record { coefficient = pos 1; order = Value; variable = v }

abbrev pub minus : ℕ → Term
minus v = record { coefficient = negsuc 0; order = Value; variable = v }

-- What a row adds to the sum of the flows at node n: a branch's first node gets +1, its second -1, an
-- earth's node +1. A branch that ends where it begins adds nothing.
abbrev pub term_at : ℕ → Row ℕ → Option Term
term_at n (Branch flow across first second) =
    cond (first == second) None (cond (first == n) (Some (plus flow)) (cond (second == n) (Some (minus flow)) None))
term_at n (Earth flow across node) = cond (node == n) (Some (plus flow)) None

-- the sum of the flows at node n, in row order
abbrev pub node_sum : List (Row ℕ) → ℕ → List Term
node_sum rows n = flat_map (λ row. option_to_list (term_at n row)) rows

-- the sums at nodes 0 to n - 1
abbrev pub node_sums : List (Row ℕ) → ℕ → List (List Term)
node_sums rows n = map (node_sum rows) (range_with_len 0 n)

-- The across with +1, the potential of the node where the row begins with -1, and with +1 that of the node where it ends,
-- if it ends at one.
-- The potential of node n is numbered variable count plus n.
abbrev pub row_equation : ℕ → Row ℕ → List Term
row_equation variables (Branch flow across first second) =
    plus across ∷ minus (variables + first) ∷ plus (variables + second) ∷ []
row_equation variables (Earth flow across node) = plus across ∷ minus (variables + node) ∷ []

-- the laws as given, then the sum at each node, then the equation of each row
abbrev pub listed : List (List Term) → List (Row ℕ) → ℕ → ℕ → List (List Term)
listed laws rows nodes variables = laws ++ (node_sums rows nodes ++ map (row_equation variables) rows)

abbrev pub equations_of : Netlist → List (List Term)
equations_of b = listed b.laws b.rows (length b.domains) b.variables
