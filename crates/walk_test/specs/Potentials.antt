-- Potentials that are listed, one for each node.
use Rattle.std.specs.Prelude.{ℕ, List, ◌∷◌}
use Rattle.quantity.specs.Group.{Group}
use Rattle.network.specs.Walks.{read}

-- the potential of a vertex: the earth point has zero, and no place in the list
abbrev pub potential_at : {G : Type 0} → Group G → List G → ℕ → G
potential_at 𝓖 potentials v = read 𝓖 (𝓖.zero ∷ potentials) v
