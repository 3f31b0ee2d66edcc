-- Potentials that are built up row by row: after k rows each of n vertices has a label and a potential.
use Rattle.std.specs.Prelude.{◌≡◌, ℕ, ◌<◌, ◌≤◌, List, ◌≢◌}
use Rattle.quantity.specs.Group.{Group}
use Rattle.network.specs.Walks.{Network, Step, Walk, walk_sum, Satisfies}

-- some walk along the rows below k leads from a to b and adds to x
abbrev pub Reaches : {G : Type 0} → Group G → Network G → ℕ → ℕ → ℕ → G → Type 0
Reaches 𝓖 R k a b x = (s : List Step) × Walk R k a s b × (walk_sum 𝓖 R s ≡ x)

-- vertices joined by rows have one label, the lowest vertex among them, which has the potential zero
pub record Settled {G : Type 0} (𝓖 : Group G) (R : Network G) (n k : ℕ) (label : ℕ → ℕ) (p : ℕ → G) : Type 0 where
  pub low : (v : ℕ) → v < n → label v ≤ v
  pub fixed : (v : ℕ) → v < n → label (label v) ≡ label v
  pub ground : (v : ℕ) → v < n → p (label v) ≡ 𝓖.zero
  pub joined : (j : ℕ) → j < k → label (R.tail j) ≡ label (R.head j)
  pub satisfies : Satisfies 𝓖 R k p
  pub walks : (v : ℕ) → v < n → Reaches 𝓖 R k v (label v) (p v)

-- of the first n vertices, those labelled `from` are labelled `to`, and have their potentials raised by `shift`
pub record Moved {G : Type 0} (𝓖 : Group G) (n from to : ℕ) (shift : G)
    (label : ℕ → ℕ) (p : ℕ → G) (label' : ℕ → ℕ) (p' : ℕ → G) : Type 0 where
  pub moved : (v : ℕ) → v < n → label v ≡ from → (label' v ≡ to) × (p' v ≡ 𝓖.sum (p v) shift)
  pub kept : (v : ℕ) → v < n → (label v ≢ from) → (label' v ≡ label v) × (p' v ≡ p v)
