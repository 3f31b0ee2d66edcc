-- How the equations lie in two lent buffers, and when these are too short.
use Rattle.std.specs.Prelude.{ℕ, ◌+◌, ◌||◌, List, [], ◌∷◌, length, Option, Result, nat_lt}
use Rattle.netlist.specs.declared.spans.Span.{Span}
use Rattle.netlist.specs.declared.terms.Term.{Term}
use Rattle.netlist.specs.Buffers.{filled}
use Rattle.netlist.specs.Netlist.{Netlist}
use Rattle.netlist.specs.Pieces.{flat}
use Rattle.refusal.specs.Tests.{Tests, first_of, answer}
use Rattle.equation.specs.declared.listing.Listing.{Listing}
use Rattle.equation.specs.declared.refusals.EquationRefusal.{EquationRefusal}
use Rattle.equation.specs.declared.refusals.EquationRefusal.TheVariants.{ShortBuffer}
use Rattle.equation.specs.Equations.{equations_of}

-- where each equation begins, the first of them at place at, and how many terms it has: no gaps
abbrev pub spans_from : ℕ → List (List Term) → List Span
spans_from at [] = []
spans_from at (e ∷ es) = record { offset = at; length = length e } ∷ spans_from (at + length e) es

-- how many terms and equations there are
abbrev pub listing_of : Netlist → Listing
listing_of b = record { terms = length (flat (equations_of b)); equations = length (equations_of b) }

-- equations(terms, spans), with buffers of m and k places
abbrev pub table_equations : Netlist → ℕ → ℕ → Tests EquationRefusal
table_equations b m k =
    (nat_lt m (listing_of b).terms || nat_lt k (listing_of b).equations, ShortBuffer)
    ∷ []

abbrev pub judge_equations : Netlist → ℕ → ℕ → Option EquationRefusal
judge_equations b m k = first_of (table_equations b m k)

abbrev pub answer_equations : Netlist → ℕ → ℕ → Result Listing EquationRefusal
answer_equations b m k = answer (judge_equations b m k) (listing_of b)

-- what two buffers hold afterwards, the first of which had terms, and the other spans
abbrev pub left_terms : Netlist → List Term → List Span → List Term
left_terms b terms spans = filled (judge_equations b (length terms) (length spans)) terms (flat (equations_of b))

abbrev pub left_spans : Netlist → List Term → List Span → List Span
left_spans b terms spans =
    filled (judge_equations b (length terms) (length spans)) spans (spans_from 0 (equations_of b))
