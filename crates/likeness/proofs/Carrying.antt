-- Walks along rows that are among those of another network.
use Rattle.std.proofs.Common.{◌≡◌, ℕ, ◌<◌, List, [], ◌∷◌, refl, sym, ap, ◌∙◌, subst, ap₂}
use Rattle.quantity.specs.Group.{Group}
use Rattle.network.specs.Walks.{Network, Step, forward, backward, Walk, walk_sum, WalksClose}

-- each of the first m rows of R is among the first n of S, between vertices of other numbers
abbrev pub Carried : {G : Type 0} → Network G → ℕ → Network G → ℕ → (ℕ → ℕ) → Type 0
Carried R m S n to = (j : ℕ) → j < m → (i : ℕ) × (i < n) × (S.tail i ≡ to (R.tail j)) × (S.head i ≡ to (R.head j)) × (S.reading i ≡ R.reading j)

module _ {G : Type 0} (𝓖 : Group G) (R : Network G) (m : ℕ) (S : Network G) (n : ℕ) (to : ℕ → ℕ) (carried : Carried R m S n to) where
  walk_carried : (a b : ℕ) (s : List Step) → Walk R m a s b → (t : List Step) × Walk S n (to a) t (to b) × (walk_sum 𝓖 S t ≡ walk_sum 𝓖 R s)
  walk_carried a b [] w = ([], ap to w, refl)
  walk_carried a b (forward j ∷ s) w =
      let row = carried j w.0 in
      let rest = walk_carried (R.head j) b s w.2 in
      (forward row.0 ∷ rest.0, (row.1, ap to w.1 ∙ sym row.2, subst (λ v. Walk S n v rest.0 (to b)) (sym row.3) rest.1), ap₂ 𝓖.sum row.4 rest.2)
  walk_carried a b (backward j ∷ s) w =
      let row = carried j w.0 in
      let rest = walk_carried (R.tail j) b s w.2 in
      (backward row.0 ∷ rest.0, (row.1, ap to w.1 ∙ sym row.3, subst (λ v. Walk S n v rest.0 (to b)) (sym row.2) rest.1), ap₂ 𝓖.sum (ap 𝓖.negation row.4) rest.2)

  pub closing_carried : WalksClose 𝓖 S n → WalksClose 𝓖 R m
  closing_carried close a s w = let walk = walk_carried a a s w in sym walk.2 ∙ close (to a) walk.0 walk.1
