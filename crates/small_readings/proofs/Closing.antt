-- Closed walks add to zero over whole numbers exactly if they do over the integers.
use Rattle.std.proofs.Common.{◌≡◌, ◌≢◌, ◌↔◌, ◌⊎◌, inl, inr, ℕ, zero, suc, ◌+◌, ◌^◌, ◌<◌, ◌≤◌, List, length, ℤ, pos, negsuc, refl, sym, ap, ◌∙◌, ⊎_elim, arith}
use Rattle.std.specs.Int.RustNames.{unsigned_abs}
use Rattle.std.proofs.Math.Nat.{mul-le-mul_right}
use Rattle.quantity.specs.Integers.{integers}
use Rattle.quantity.specs.Wholes.{whole, wholes}
use Rattle.quantity.specs.declared.numbers.Whole.{Whole}
use Rattle.netlist.specs.Netlist.{Netlist}
use Rattle.netlist.specs.Rows.{across_of}
use Rattle.netlist.specs.Sound.{Sound}
use Rattle.network.specs.Walks.{Step, Walk, walk_sum, row_at, WalksClose, SomeWalkFails, Refuted}
use Rattle.network.proofs.First.{first_alike}
use Rattle.small_readings.specs.Small.{AreSmall}
use Rattle.small_readings.specs.Exact.{over_wholes, over_integers}
use Rattle.small_readings.proofs.Bounds.{read_small, rows_within, zero_from}
use Rattle.small_readings.proofs.Images.{walk_is, walk_over}
use Rattle.small_readings.proofs.Shortening.{fails_short}
use Rattle.small_readings.proofs.Sizes.{walk_size}

pub zero_or_not : (z : ℤ) → (z ≡ pos 0) ⊎ (z ≢ pos 0)
zero_or_not (pos zero) = inl refl
zero_or_not (pos (suc n)) = inr (λ e. omega (arith, ap unsigned_abs e))
zero_or_not (negsuc n) = inr (λ e. omega (arith, ap unsigned_abs e))

module _ (b : Netlist) (sound : Sound b) (values : List Whole) (small : AreSmall values) where
  pub walk_to_integers : (k u v : ℕ) (s : List Step) → Walk (over_wholes b values) k u s v → Walk (over_integers b values) k u s v
  walk_to_integers k u v s w = walk_over (over_wholes b values) (over_integers b values).reading k u v s w

  pub walk_to_wholes : (k u v : ℕ) (s : List Step) → Walk (over_integers b values) k u s v → Walk (over_wholes b values) k u s v
  walk_to_wholes k u v s w = walk_over (over_integers b values) (over_wholes b values).reading k u v s w

  -- a walk of no more steps than there are vertices is far from where whole numbers wrap
  pub short_near : (s : List Step) → length s ≤ length b.domains + 1 → unsigned_abs (walk_sum integers (over_integers b values) s) < 2 ^ 63
  short_near s short =
      let nodes = sound.within.nodes in
      omega (
        arith,
        walk_size (2 ^ 40) (over_integers b values) (λ j. read_small values small (across_of (row_at b.rows j))) s,
        mul-le-mul_right (2 ^ 40) short,
      )

  module _ (k : ℕ) where
    pub fails_to_integers : SomeWalkFails wholes (over_wholes b values) k → SomeWalkFails integers (over_integers b values) k
    fails_to_integers (a, s, w, some) = (a, s, walk_to_integers k a a s w, λ none. some (walk_is b values s ∙ ap whole none))

    pub close_to_wholes : WalksClose integers (over_integers b values) k → WalksClose wholes (over_wholes b values) k
    close_to_wholes close a s w = walk_is b values s ∙ ap whole (close a s (walk_to_integers k a a s w))

    module _ (few : k ≤ length b.rows) where
      pub fails_to_wholes : SomeWalkFails integers (over_integers b values) k → SomeWalkFails wholes (over_wholes b values) k
      fails_to_wholes u =
          let f = fails_short integers (over_integers b values) k (length b.domains + 1) (rows_within b sound k few values) zero_or_not u in (
            f.0,
            f.1,
            walk_to_wholes k f.0 f.0 f.1 f.2,
            λ none. f.4 (zero_from (walk_sum integers (over_integers b values) f.1) (short_near f.1 f.3) (sym (walk_is b values f.1) ∙ none)),
          )

      pub close_to_integers : WalksClose wholes (over_wholes b values) k → WalksClose integers (over_integers b values) k
      close_to_integers close a s w =
          ⊎_elim
          (λ none. none)
          (λ some. let u = fails_to_wholes (a, s, w, some) in absurd (u.3 (close u.0 u.1 u.2)))
          (zero_or_not (walk_sum integers (over_integers b values) s))

  pub refuted_alike : (k : ℕ) → Refuted wholes (over_wholes b values) (length b.rows) k ↔ Refuted integers (over_integers b values) (length b.rows) k
  refuted_alike =
      first_alike _ _ _ _ (length b.rows)
      (λ j l. (close_to_integers (j + 1) (omega arith), close_to_wholes (j + 1)))
      (λ j l. (fails_to_integers (j + 1), fails_to_wholes (j + 1) (omega arith)))
