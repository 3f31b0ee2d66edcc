-- Sums at nodes, each at the place of its node.
use Rattle.std.specs.Prelude.{◌≡◌, ℕ, ◌<◌, cond, List, length}
use Rattle.quantity.specs.Group.{Group}
use Rattle.netlist.specs.declared.rows.Row.{Row}
use Rattle.network.specs.Flows.{excess, leaves, only}
use Rattle.network.specs.Walks.{read}

-- the flow is added to the sum at the node, and the other sums stay
abbrev pub AddedAt : {G : Type 0} → Group G → ℕ → G → List G → List G → Type 0
AddedAt 𝓖 node flow old new =
    (n : ℕ) → n < length new → read 𝓖 new n ≡ 𝓖.sum (read 𝓖 old n) (cond (only n node) flow 𝓖.zero)

-- to the sum at each node is added what a row with the flow brings out of it
abbrev pub AddedRow : {G : Type 0} → Group G → Row ℕ → G → List G → List G → Type 0
AddedRow 𝓖 row flow old new =
    (n : ℕ) → n < length new → read 𝓖 new n ≡ 𝓖.sum (read 𝓖 old n) (leaves 𝓖 (only n) row flow)

-- each sum is the excess of its node
abbrev pub AreExcesses : {G : Type 0} → Group G → List (Row ℕ) → List G → List G → Type 0
AreExcesses 𝓖 rows values sums = (n : ℕ) → n < length sums → read 𝓖 sums n ≡ excess 𝓖 rows values n
