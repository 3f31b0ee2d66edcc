-- Labels and potentials that are listed, while rows are joined to those before.
use Rattle.std.specs.Prelude.{ℕ, ◌+◌, List, length, slice_index}
use Rattle.quantity.specs.Group.{Group}
use Rattle.network.specs.Walks.{Network}
use Rattle.network.specs.Settled.{Settled, Moved}
use Rattle.walk_test.specs.Potentials.{potential_at}

-- after k rows: a label and a potential for the earth point and for each node
abbrev pub SettledBy : {G : Type 0} → Group G → Network G → ℕ → List ℕ → List G → Type 0
SettledBy 𝓖 R k labels potentials =
    Settled 𝓖 R (length potentials + 1) k (slice_index labels) (potential_at 𝓖 potentials)

-- of the earth point and the nodes, those labelled `from` are labelled `to`, and have their potentials raised by
-- `shift`
abbrev pub MovedBy : {G : Type 0} → Group G → ℕ → ℕ → G → List ℕ → List G → List ℕ → List G → Type 0
MovedBy 𝓖 from to shift labels potentials labels' potentials' =
    Moved 𝓖 (length potentials + 1) from to shift
    (slice_index labels) (potential_at 𝓖 potentials) (slice_index labels') (potential_at 𝓖 potentials')
