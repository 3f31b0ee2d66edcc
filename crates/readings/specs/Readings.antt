-- What the listed equations of a netlist come to, once readings and potentials are put into them.
use Rattle.std.specs.Prelude.{◌≡◌, ℕ, ◌-◌, ◌<◌, cond, List, [], ◌∷◌, length, nat_lt, slice_index_or}
use Rattle.quantity.specs.Group.{Group}
use Rattle.netlist.specs.Netlist.{Netlist}
use Rattle.netlist.specs.declared.terms.Term.{Term}
use Rattle.network.specs.Readings.{Readings}
use Rattle.network.specs.Walks.{read}
use Rattle.network.specs.Laws.{of_order}
use Rattle.equation.specs.Equations.{equations_of}

-- What a term reads, of variables 0 to n - 1: the value or the rate of one of them, or the potential of a
-- node, since the potential of node u is numbered n + u. A potential has no rate, so its order is not asked.
abbrev pub term_reading : {G : Type 0} → Group G → ℕ → Readings G → (ℕ → G) → Term → G
term_reading 𝓖 n r p t =
    cond (nat_lt t.variable n) (read 𝓖 (of_order t.order r) t.variable) (p (t.variable - n))

-- the sum, over the terms of an equation, of coefficient times what is read
abbrev pub equation_sum : {G : Type 0} → Group G → ℕ → Readings G → (ℕ → G) → List Term → G
equation_sum 𝓖 n r p [] = 𝓖.zero
equation_sum 𝓖 n r p (t ∷ ts) =
    𝓖.sum (𝓖.multiple t.coefficient (term_reading 𝓖 n r p t)) (equation_sum 𝓖 n r p ts)

-- what listed equation i of a netlist comes to, where p has the potentials of its nodes
abbrev pub comes_to : {G : Type 0} → Group G → Netlist → Readings G → (ℕ → G) → ℕ → G
comes_to 𝓖 b r p i = equation_sum 𝓖 b.variables r p (slice_index_or (equations_of b) i [])

-- every listed equation comes to zero
abbrev pub EquationsHold : {G : Type 0} → Group G → Netlist → Readings G → (ℕ → G) → Type 0
EquationsHold 𝓖 b r p =
    (i : ℕ) → i < length (equations_of b) → comes_to 𝓖 b r p i ≡ 𝓖.zero
