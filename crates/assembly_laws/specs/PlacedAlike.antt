-- Where plans that differ in the numbers of their inner nodes alone are placed.
use Rattle.std.specs.Prelude.{◌≡◌, ℕ, ◌+◌, ◌-◌, ◌↔◌, cond, [], ◌∷◌, length, None, nat_lt}
use Rattle.likeness.specs.Alike.{Alike}
use Rattle.netlist.specs.Netlist.{Netlist}
use Rattle.netlist.specs.Sound.{Sound}
use Rattle.assembly.specs.Meaning.{Meaning, Proper}
use Rattle.place.specs.Place.{judge_place, with_assembly}
use Rattle.assembly_laws.specs.ButNodes.{MeansButNodes, SameButNodes}

-- Nodes that were drawn before keep their numbers. Behind them stand a plan's inner nodes, in their order:
-- inner node j, which is node 2 + j of the plan, goes where node `to (2 + j)` of the other plan stands.
abbrev pub behind_drawn : ℕ → (ℕ → ℕ) → ℕ → ℕ
behind_drawn drawn to k = cond (nat_lt k drawn) k (drawn + (to (2 + (k - drawn)) - 2))

-- THEOREM: the one fits exactly where the other does
abbrev pub FitAlike : Type 0
FitAlike =
    (b : Netlist) (to back : ℕ → ℕ) (m n : Meaning) → Proper m → MeansButNodes to back m n → (p q : ℕ)
    → ((judge_place b m (p ∷ q ∷ []) ≡ None) ↔ (judge_place b n (p ∷ q ∷ []) ≡ None))

-- THEOREM: and where they fit, both draw the same, but for the nodes' numbers; so the netlists are alike
abbrev pub AreDrawnAlike : Type 0
AreDrawnAlike =
    (b : Netlist) → Sound b → (to back : ℕ → ℕ) (m n : Meaning) → Proper m → MeansButNodes to back m n → (p q : ℕ)
    → judge_place b m (p ∷ q ∷ []) ≡ None
    → SameButNodes (behind_drawn (length b.domains) to) (behind_drawn (length b.domains) back)
    (with_assembly b m (p ∷ q ∷ [])) (with_assembly b n (p ∷ q ∷ []))
    × Alike (with_assembly b m (p ∷ q ∷ [])) (with_assembly b n (p ∷ q ∷ []))
