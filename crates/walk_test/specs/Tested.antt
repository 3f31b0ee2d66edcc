-- What the walk test answers, and what the potentials are then.
use Rattle.std.specs.Prelude.{◌≡◌, ℕ, ◌+◌, List, length, replicate, Result, Ok, Err}
use Rattle.quantity.specs.Group.{Group}
use Rattle.netlist.specs.declared.rows.Row.{Row}
use Rattle.network.specs.Walks.{Network, row_at, rows_network, Solved, Refuted}
use Rattle.walk_test.specs.declared.findings.Finding.{Finding}
use Rattle.walk_test.specs.declared.findings.Finding.TheVariants.{WalksClose, SomeWalkFails}
use Rattle.walk_test.specs.declared.findings.Misfit.{Misfit}
use Rattle.walk_test.specs.Drawn.{judged}
use Rattle.walk_test.specs.Potentials.{potential_at}

-- the network of rows, where the reading of a row is told by its number and by the row
abbrev pub network_with : {G : Type 0} → List (Row ℕ) → (ℕ → Row ℕ → G) → Network G
network_with rows reading = rows_network rows (λ j. reading j (row_at rows j))

-- the potentials are the one filling of the nodes for the first m rows, so that every closed walk along them
-- adds to zero; or row k is the lowest with which some closed walk does not, and every potential is zero
abbrev pub Found : {G : Type 0} → Group G → Network G → ℕ → List G → Finding → Type 0
Found 𝓖 R m potentials WalksClose = Solved 𝓖 R (length potentials + 1) m (potential_at 𝓖 potentials)
Found 𝓖 R m potentials (SomeWalkFails k) = Refuted 𝓖 R m k × (potentials ≡ replicate (length potentials) 𝓖.zero)

-- a finding about rows that fit, with one potential for each node as before; or why they do not, and then no
-- potential has changed
abbrev pub Tested : {G : Type 0} → Group G → List (Row ℕ) → Network G → List G → List G → Result Finding Misfit → Type 0
Tested 𝓖 rows R old new (Ok finding) =
    (judged rows (length old) ≡ Ok tt) × (length new ≡ length old) × Found 𝓖 R (length rows) new finding
Tested 𝓖 rows R old new (Err why) = (judged rows (length old) ≡ Err why) × (new ≡ old)

-- THEOREM: rows and their readings have one answer, and one list of potentials goes with it
abbrev pub OneAnswer : {G : Type 0} → Group G → Type 0
OneAnswer {G} 𝓖 =
    (rows : List (Row ℕ)) (R : Network G) (old new new' : List G) (answer answer' : Result Finding Misfit)
    → Tested 𝓖 rows R old new answer → Tested 𝓖 rows R old new' answer' → (answer ≡ answer') × (new ≡ new')
