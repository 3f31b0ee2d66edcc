-- What a term takes times its coefficient: the value or the rate of a variable, or the potential of a
-- node. On a sheet with V variables, variable number V + n in a term means the potential of node n.
-- A potential has no letter for its rate, so there the order does not matter.
use Rattle.std.specs.Prelude.{ℕ, ◌-◌, cond, List, codes, nat_lt}
use Rattle.netlist.specs.declared.terms.Order.{Order}
use Rattle.netlist.specs.declared.terms.Order.TheVariants.{Value as ByValue, Rate as ByRate}
use Rattle.netlist.specs.declared.terms.Term.{Term}
use Rattle.spelling.specs.declared.symbols.Symbol.{Symbol}
use Rattle.spelling.specs.declared.symbols.Symbol.TheVariants.{Value, Rate, Potential}

abbrev pub of_variable : Order → ℕ → Symbol
of_variable ByValue v = Value v
of_variable ByRate v = Rate v

abbrev pub symbol : ℕ → Term → Symbol
symbol variables t =
    cond (nat_lt t.variable variables) (of_variable t.order t.variable) (Potential (t.variable - variables))

abbrev pub letter : Symbol → List ℕ
letter (Value v) = codes "v"
letter (Rate v) = codes "r"
letter (Potential n) = codes "p"

-- the number behind the letter
abbrev pub number : Symbol → ℕ
number (Value v) = v
number (Rate v) = v
number (Potential n) = n
