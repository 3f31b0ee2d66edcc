-- Walks along the rows of a network, and what the rows' readings add to.
-- Vertex 0 is the common earth point, and vertex n + 1 is node n.
use Rattle.std.specs.Prelude.{◌≡◌, ℕ, ◌+◌, ◌<◌, ◌≤◌, List, [], ◌∷◌, length, ◌≢◌, slice_index_or}
use Rattle.quantity.specs.Group.{Group, minus}
use Rattle.netlist.specs.Rows.{across_of}
use Rattle.netlist.specs.declared.rows.Row.{Row}
use Rattle.netlist.specs.declared.rows.Row.TheVariants.{Branch, Earth}
use Rattle.network.specs.First.{First}

-- row j leads from the vertex `tail j` to the vertex `head j`, and has a reading
pub record Network (G : Type 0) : Type 0 where
  pub tail : ℕ → ℕ
  pub head : ℕ → ℕ
  pub reading : ℕ → G

abbrev pub no_row : Row ℕ
no_row = Branch 0 0 0 0

abbrev pub row_at : List (Row ℕ) → ℕ → Row ℕ
row_at rows j = slice_index_or rows j no_row

-- a branch leads from its first node to its second, and an earth row from its node to the earth
abbrev pub tail_of : Row ℕ → ℕ
tail_of (Branch flow across first second) = first + 1
tail_of (Earth flow across node) = node + 1

abbrev pub head_of : Row ℕ → ℕ
head_of (Branch flow across first second) = second + 1
head_of (Earth flow across node) = 0

-- the reading of a variable
abbrev pub read : {G : Type 0} → Group G → List G → ℕ → G
read 𝓖 readings v = slice_index_or readings v 𝓖.zero

-- the network of rows, each with the reading that its number has
abbrev pub rows_network : {G : Type 0} → List (Row ℕ) → (ℕ → G) → Network G
rows_network rows reading =
    record { tail = λ j. tail_of (row_at rows j); head = λ j. head_of (row_at rows j); reading = reading }

-- the network of rows, each with the reading of its across variable
abbrev pub network_of : {G : Type 0} → Group G → List (Row ℕ) → List G → Network G
network_of 𝓖 rows values = rows_network rows (λ j. read 𝓖 values (across_of (row_at rows j)))

-- the ends of the first m rows are below n
abbrev pub Within : {G : Type 0} → Network G → ℕ → ℕ → Type 0
Within R n m = (j : ℕ) → j < m → (R.tail j < n) × (R.head j < n)

-- the rows name none but the first n nodes
abbrev pub Drawn : List (Row ℕ) → ℕ → Type 0
Drawn rows n = (j : ℕ) → j < length rows → (tail_of (row_at rows j) < n + 1) × (head_of (row_at rows j) < n + 1)

-- one step of a walk: over row j from its tail to its head, or back
pub data Step : Type 0 where
  forward : ℕ → Step
  backward : ℕ → Step

-- the steps lead from a to b along the rows below k
abbrev pub Walk : {G : Type 0} → Network G → ℕ → ℕ → List Step → ℕ → Type 0
Walk R k a [] b = a ≡ b
Walk R k a (forward j ∷ s) b = (j < k) × (a ≡ R.tail j) × Walk R k (R.head j) s b
Walk R k a (backward j ∷ s) b = (j < k) × (a ≡ R.head j) × Walk R k (R.tail j) s b

-- a row's reading counts once for each step forward, and negated for each step back
abbrev pub walk_sum : {G : Type 0} → Group G → Network G → List Step → G
walk_sum 𝓖 R [] = 𝓖.zero
walk_sum 𝓖 R (forward j ∷ s) = 𝓖.sum (R.reading j) (walk_sum 𝓖 R s)
walk_sum 𝓖 R (backward j ∷ s) = 𝓖.sum (𝓖.negation (R.reading j)) (walk_sum 𝓖 R s)

-- every closed walk along the rows below k adds to zero
abbrev pub WalksClose : {G : Type 0} → Group G → Network G → ℕ → Type 0
WalksClose 𝓖 R k = (a : ℕ) (s : List Step) → Walk R k a s a → walk_sum 𝓖 R s ≡ 𝓖.zero

-- some closed walk along the rows below k does not add to zero
abbrev pub SomeWalkFails : {G : Type 0} → Group G → Network G → ℕ → Type 0
SomeWalkFails 𝓖 R k = (a : ℕ) × (s : List Step) × Walk R k a s a × (walk_sum 𝓖 R s ≢ 𝓖.zero)

-- the reading of each row below k is the difference of the potentials at its ends
abbrev pub Satisfies : {G : Type 0} → Group G → Network G → ℕ → (ℕ → G) → Type 0
Satisfies 𝓖 R k p = (j : ℕ) → j < k → R.reading j ≡ minus 𝓖 (p (R.tail j)) (p (R.head j))

-- no vertex that a walk from v comes to is below v
abbrev pub Lowest : {G : Type 0} → Network G → ℕ → ℕ → Type 0
Lowest R k v = (u : ℕ) (s : List Step) → Walk R k v s u → v ≤ u

-- of the first n vertices, the lowest one of each part has the potential zero
abbrev pub Grounded : {G : Type 0} → Group G → Network G → ℕ → ℕ → (ℕ → G) → Type 0
Grounded 𝓖 R n k p = (v : ℕ) → v < n → Lowest R k v → p v ≡ 𝓖.zero

-- p has the potentials of the first n vertices under the rows below k, and nothing else has
pub record Solved {G : Type 0} (𝓖 : Group G) (R : Network G) (n k : ℕ) (p : ℕ → G) : Type 0 where
  pub satisfies : Satisfies 𝓖 R k p
  pub grounded : Grounded 𝓖 R n k p
  pub only : (q : ℕ → G) → Satisfies 𝓖 R k q → Grounded 𝓖 R n k q → (v : ℕ) → v < n → q v ≡ p v

-- of the first m rows, row k is the first with which some closed walk fails to come to zero
abbrev pub Refuted : {G : Type 0} → Group G → Network G → ℕ → ℕ → Type 0
Refuted 𝓖 R m k = First (λ j. WalksClose 𝓖 R (j + 1)) (λ j. SomeWalkFails 𝓖 R (j + 1)) m k

-- THEOREM: potentials that satisfy the rows make each walk add to the difference of its ends
abbrev pub WalksAddToDifferences : {G : Type 0} → Group G → Type 0
WalksAddToDifferences {G} 𝓖 =
    (R : Network G) (k : ℕ) (p : ℕ → G) → Satisfies 𝓖 R k p
    → (a b : ℕ) (s : List Step) → Walk R k a s b → walk_sum 𝓖 R s ≡ minus 𝓖 (p a) (p b)

-- THEOREM: so every closed walk adds up to zero
abbrev pub PotentialsCloseWalks : {G : Type 0} → Group G → Type 0
PotentialsCloseWalks {G} 𝓖 = (R : Network G) (k : ℕ) (p : ℕ → G) → Satisfies 𝓖 R k p → WalksClose 𝓖 R k

-- THEOREM: and where every closed walk adds up to zero there are potentials
abbrev pub ClosingHasPotentials : {G : Type 0} → Group G → Type 0
ClosingHasPotentials {G} 𝓖 =
    (R : Network G) (n m : ℕ) → Within R n m → WalksClose 𝓖 R m → (p : ℕ → G) × Solved 𝓖 R n m p
