-- The lowest row with which some closed walk does not add to zero: the rows before it have none.
use Rattle.std.proofs.Common.{◌≡◌, ℕ, zero, suc, ◌+◌, ◌<◌, ◌≤◌, [], ◌∷◌, add-one, refl, subst, arith}
use Rattle.quantity.specs.Group.{Group}
use Rattle.network.specs.Walks.{Network, forward, backward, WalksClose, SomeWalkFails, Refuted}
use Rattle.network.proofs.First.{one_first}
use Rattle.network.proofs.Reaching.{walk_more}

module _ {G : Type 0} (𝓖 : Group G) (R : Network G) where
  no_rows_close : WalksClose 𝓖 R 0
  no_rows_close a [] w = refl
  no_rows_close a (forward j ∷ s) w = absurd (omega (arith, w.0))
  no_rows_close a (backward j ∷ s) w = absurd (omega (arith, w.0))

  pub fewer_close : (j k : ℕ) → j ≤ k → WalksClose 𝓖 R k → WalksClose 𝓖 R j
  fewer_close j k l close a s w = close a s (walk_more R j k a a s l w)

  pub closed_before : (m k : ℕ) → Refuted 𝓖 R m k → WalksClose 𝓖 R k
  closed_before m zero r = no_rows_close
  closed_before m (suc k) r = subst (WalksClose 𝓖 R) (add-one k) (r.before k (omega arith))

  pub refuted_from : (m k : ℕ) → k < m → WalksClose 𝓖 R k → SomeWalkFails 𝓖 R (k + 1) → Refuted 𝓖 R m k
  refuted_from m k within close here = record {
    within = within;
    before = λ j l. fewer_close (j + 1) k (omega arith) close;
    here = here;
  }

  -- the rows below k close every walk, or some walk along them fails, and not both
  pub not_both : (k : ℕ) → WalksClose 𝓖 R k → SomeWalkFails 𝓖 R k → ⊥
  not_both k close (a, s, walk, uneven) = uneven (close a s walk)

  pub one_refuted : (m j k : ℕ) → Refuted 𝓖 R m j → Refuted 𝓖 R m k → j ≡ k
  one_refuted m j k = one_first _ _ (λ i. not_both (i + 1)) m j k

  pub closed_not_refuted : (m k : ℕ) → WalksClose 𝓖 R m → Refuted 𝓖 R m k → ⊥
  closed_not_refuted m k close r = not_both (k + 1) (fewer_close (k + 1) m (omega (arith, r.within)) close) r.here
