-- What a law comes to.
use Rattle.std.specs.Prelude.{◌≡◌, ℕ, ◌<◌, List, [], ◌∷◌, length, slice_index_or}
use Rattle.quantity.specs.Group.{Group}
use Rattle.netlist.specs.declared.terms.Order.{Order}
use Rattle.netlist.specs.declared.terms.Order.TheVariants.{Value, Rate}
use Rattle.netlist.specs.declared.terms.Term.{Term}
use Rattle.network.specs.First.{First}
use Rattle.network.specs.Readings.{Readings}
use Rattle.network.specs.Walks.{read}

-- the readings of an order
abbrev pub of_order : {G : Type 0} → Order → Readings G → List G
of_order Value r = r.values
of_order Rate r = r.rates

-- the sum, over the terms, of coefficient times value or rate
abbrev pub law_sum : {G : Type 0} → Group G → List Term → Readings G → G
law_sum 𝓖 [] r = 𝓖.zero
law_sum 𝓖 (t ∷ ts) r = 𝓖.sum (𝓖.multiple t.coefficient (read 𝓖 (of_order t.order r) t.variable)) (law_sum 𝓖 ts r)

-- law k holds: its sum is zero
abbrev pub LawHolds : {G : Type 0} → Group G → List (List Term) → Readings G → ℕ → Type 0
LawHolds 𝓖 laws r k = law_sum 𝓖 (slice_index_or laws k []) r ≡ 𝓖.zero

-- the first n laws hold
abbrev pub LawsHold : {G : Type 0} → Group G → List (List Term) → Readings G → ℕ → Type 0
LawsHold 𝓖 laws r n = (k : ℕ) → k < n → LawHolds 𝓖 laws r k

-- k is the lowest law that fails
abbrev pub FirstLaw : {G : Type 0} → Group G → List (List Term) → Readings G → ℕ → Type 0
FirstLaw 𝓖 laws r k = First (LawHolds 𝓖 laws r) (λ j. LawHolds 𝓖 laws r j → ⊥) (length laws) k
