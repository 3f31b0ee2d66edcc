-- The sum at a node, row after row.
use Rattle.std.proofs.Common.{◌≡◌, ℕ, ◌+◌, ◌<◌, ◌≤◌, List, [], ◌∷◌, ◌++◌, length, get_or, take, Some, None, Option, ap, ◌∙◌, arith}
use Rattle.std.specs.Option.{option_to_list}
use Rattle.std.proofs.lemmas.List.{append-nil, length-append}
use Rattle.netlist.specs.declared.rows.Row.{Row}
use Rattle.netlist.specs.declared.terms.Term.{Term}
use Rattle.netlist.proofs.Joined.{joined_take_le, joined_next}
use Rattle.equation.specs.Equations.{term_at, node_sum}

-- a row that adds a term, or none
module _ (rows : List (Row ℕ)) (n i : ℕ) (d : Row ℕ) (within : i < length rows) where
  pub sum_more : (t : Term) → term_at n (get_or rows i d) ≡ Some t → node_sum (take (i + 1) rows) n ≡ node_sum (take i rows) n ++ t ∷ []
  sum_more t h = joined_next (λ row. option_to_list (term_at n row)) rows i d within ∙ ap (λ (o : Option Term). node_sum (take i rows) n ++ option_to_list o) h

  pub sum_same : term_at n (get_or rows i d) ≡ None → node_sum (take (i + 1) rows) n ≡ node_sum (take i rows) n
  sum_same h = joined_next (λ row. option_to_list (term_at n row)) rows i d within ∙ ap (λ (o : Option Term). node_sum (take i rows) n ++ option_to_list o) h ∙ append-nil (node_sum (take i rows) n)

  -- there is a place for the term
  pub sum_room : (t : Term) → term_at n (get_or rows i d) ≡ Some t → length (node_sum (take i rows) n) + 1 ≤ length (node_sum rows n)
  sum_room t h = omega (arith, ap length (sum_more t h), length-append (node_sum (take i rows) n) (t ∷ []), joined_take_le (λ row. option_to_list (term_at n row)) (i + 1) rows)
