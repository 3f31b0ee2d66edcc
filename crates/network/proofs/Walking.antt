-- What walks add to.
use Rattle.std.proofs.Common.{[], ◌∷◌, sym, ap, ◌∙◌, ap₂}
use Rattle.quantity.specs.Group.{Group, minus}
use Rattle.network.specs.Walks.{forward, backward, WalksAddToDifferences, PotentialsCloseWalks}
use Rattle.quantity.proofs.Groups.{minus_meet, minus_same, negation_minus}

module _ {G : Type 0} (𝓖 : Group G) where
  pub walk_adds : WalksAddToDifferences 𝓖
  walk_adds R k p fits a b [] e = sym (minus_same 𝓖 (p a) (p b) (ap p e))
  walk_adds R k p fits a b (forward j ∷ s) w =
      ap₂ 𝓖.sum (fits j w.0) (walk_adds R k p fits (R.head j) b s w.2)
      ∙ minus_meet 𝓖 _ _ _ ∙ ap (λ v. minus 𝓖 (p v) (p b)) (sym w.1)
  walk_adds R k p fits a b (backward j ∷ s) w =
      ap₂ 𝓖.sum (ap 𝓖.negation (fits j w.0) ∙ negation_minus 𝓖 _ _) (walk_adds R k p fits (R.tail j) b s w.2)
      ∙ minus_meet 𝓖 _ _ _ ∙ ap (λ v. minus 𝓖 (p v) (p b)) (sym w.1)

  pub potentials_close_walks : PotentialsCloseWalks 𝓖
  potentials_close_walks R k p fits a s w = walk_adds R k p fits a a s w ∙ 𝓖.inverse (p a)
