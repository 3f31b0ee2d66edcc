-- The numbers of the orders.
use Rattle.std.specs.Prelude.{◌≡◌, ℕ, ◌<◌, Result, MatchResult}
use Rattle.netlist.specs.declared.terms.NoOrder.{NoOrder}
use Rattle.netlist.specs.declared.terms.Order.{Order}
use Rattle.netlist.specs.declared.terms.Order.TheVariants.{Value, Rate}

abbrev pub order_number : Order → ℕ
order_number Value = 0
order_number Rate = 1

-- the order of this number, or that there is none
abbrev pub IsOrderOf : ℕ → Result Order NoOrder → Type 0
IsOrderOf n answer = MatchResult answer (λ order. order_number order ≡ n) (λ _. 1 < n)
