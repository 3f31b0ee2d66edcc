-- What flows out of a set of nodes.
use Rattle.std.specs.Prelude.{◌≡◌, ℕ, zero, suc, ◌<◌, ◌↔◌, Bool, cond, List, [], ◌∷◌, ◌==◌}
use Rattle.quantity.specs.Group.{Group}
use Rattle.netlist.specs.Rows.{flow_of}
use Rattle.netlist.specs.declared.rows.Row.{Row}
use Rattle.netlist.specs.declared.rows.Row.TheVariants.{Branch, Earth}
use Rattle.network.specs.First.{First}
use Rattle.network.specs.Walks.{read, Drawn}

abbrev pub sum_below : {G : Type 0} → Group G → ℕ → (ℕ → G) → G
sum_below 𝓖 zero f = 𝓖.zero
sum_below 𝓖 (suc n) f = 𝓖.sum (sum_below 𝓖 n f) (f n)

-- what the flow x brings out of a set: x if only its start is inside, and -x if only its end is
abbrev pub crossing : {G : Type 0} → Group G → Bool → Bool → G → G
crossing 𝓖 start-inside end-inside x =
    cond start-inside (cond end-inside 𝓖.zero x) (cond end-inside (𝓖.negation x) 𝓖.zero)

-- what a row with the flow x brings out of a set of nodes; the earth is in no such set
abbrev pub leaves : {G : Type 0} → Group G → (ℕ → Bool) → Row ℕ → G → G
leaves 𝓖 inside (Branch flow across first second) x = crossing 𝓖 (inside first) (inside second) x
leaves 𝓖 inside (Earth flow across node) x = cond (inside node) x 𝓖.zero

-- the net flow out of a set of nodes
abbrev pub net_flow : {G : Type 0} → Group G → List (Row ℕ) → List G → (ℕ → Bool) → G
net_flow 𝓖 [] values inside = 𝓖.zero
net_flow 𝓖 (row ∷ rows) values inside =
    𝓖.sum (leaves 𝓖 inside row (read 𝓖 values (flow_of row))) (net_flow 𝓖 rows values inside)

-- the set of one node
abbrev pub only : ℕ → ℕ → Bool
only n v = v == n

-- the net flow out of one node
abbrev pub excess : {G : Type 0} → Group G → List (Row ℕ) → List G → ℕ → G
excess 𝓖 rows values n = net_flow 𝓖 rows values (only n)

-- THEOREM: the net flow out of a set of nodes is the sum of their excesses
abbrev pub FlowIsExcess : {G : Type 0} → Group G → Type 0
FlowIsExcess {G} 𝓖 =
    (rows : List (Row ℕ)) (values : List G) (n : ℕ) → Drawn rows n → (inside : ℕ → Bool)
    → net_flow 𝓖 rows values inside ≡ sum_below 𝓖 n (λ u. cond (inside u) (excess 𝓖 rows values u) 𝓖.zero)

-- nothing flows out of any set of nodes
abbrev pub SetsKeep : {G : Type 0} → Group G → List (Row ℕ) → List G → Type 0
SetsKeep 𝓖 rows values = (inside : ℕ → Bool) → net_flow 𝓖 rows values inside ≡ 𝓖.zero

-- nothing flows out of any of the first n nodes
abbrev pub NodesKeep : {G : Type 0} → Group G → List (Row ℕ) → List G → ℕ → Type 0
NodesKeep 𝓖 rows values n = (u : ℕ) → u < n → excess 𝓖 rows values u ≡ 𝓖.zero

-- of the first m nodes, n is the lowest whose net flow is not zero
abbrev pub FirstNode : {G : Type 0} → Group G → List (Row ℕ) → List G → ℕ → ℕ → Type 0
FirstNode 𝓖 rows values m n =
    First (λ u. excess 𝓖 rows values u ≡ 𝓖.zero) (λ u. excess 𝓖 rows values u ≡ 𝓖.zero → ⊥) m n

-- THEOREM: nothing flows out of any set of the nodes exactly if nothing flows out of any node
abbrev pub SetsKeepAsNodes : {G : Type 0} → Group G → Type 0
SetsKeepAsNodes {G} 𝓖 =
    (rows : List (Row ℕ)) (values : List G) (n : ℕ) → Drawn rows n → SetsKeep 𝓖 rows values ↔ NodesKeep 𝓖 rows values n
