-- One row more is taken to those before, in lists of labels and potentials.
use Rattle.std.proofs.Common.{◌≡◌, ℕ, ◌+◌, ◌<◌, Bool, Decides, MatchBool, List, length, slice_index, sym, ap, ◌∙◌, subst, subst₂, arith}
use Rattle.quantity.specs.Group.{Group, minus}
use Rattle.network.specs.Walks.{Network, Within, SomeWalkFails}
use Rattle.network.specs.Settled.{Settled}
use Rattle.network.proofs.Settling.{gap_at, row_decides, tail_joins, head_joins}
use Rattle.walk_test.specs.Joining.{SettledBy, MovedBy}
use Rattle.walk_test.specs.Potentials.{potential_at}

module _ {G : Type 0} (𝓖 : Group G) (R : Network G) (k : ℕ) (labels : List ℕ) (potentials : List G) where
  abbrev label : ℕ → ℕ
  label = slice_index labels

  abbrev p : ℕ → G
  p = potential_at 𝓖 potentials

  abbrev n : ℕ
  n = length potentials + 1

  -- row k, with its ends, its reading and its gap
  module _ (settled : SettledBy 𝓖 R k labels potentials) (within : Within R n (k + 1))
      (a b : ℕ) (r x : G) (tail : a ≡ R.tail k) (head : b ≡ R.head k) (reading : r ≡ R.reading k) (difference : x ≡ minus 𝓖 r (minus 𝓖 (p a) (p b))) where
    gap : x ≡ gap_at 𝓖 R p k
    gap = cc

    tail_label : label a ≡ label (R.tail k)
    tail_label = ap label tail

    head_label : label b ≡ label (R.head k)
    head_label = ap label head

    -- a row inside a part fits, or closes a walk that comes to something else than zero
    pub row_tells : label a ≡ label b → (fits : Bool) → Decides fits (x ≡ 𝓖.zero) → MatchBool fits (SettledBy 𝓖 R (k + 1) labels potentials) (SomeWalkFails 𝓖 R (k + 1))
    row_tells same fits decides =
        let ends = within k (omega arith) in
        row_decides 𝓖 R n k label p settled ends.0 ends.1
        (sym tail_label ∙ same ∙ head_label) fits (subst (λ y. Decides fits (y ≡ 𝓖.zero)) gap decides)

    module _ (labels' : List ℕ) (potentials' : List G) (count : length potentials' ≡ length potentials) where
      abbrev Moves : ℕ → ℕ → G → Type 0
      Moves from to shift = MovedBy 𝓖 from to shift labels potentials labels' potentials'

      moves_same : (from to from' to' : ℕ) (shift shift' : G) → from ≡ from' → to ≡ to' → shift ≡ shift' → Moves from to shift → Moves from' to' shift'
      moves_same from to from' to' shift shift' e f h moved = subst (λ y. Moves from' to' y) h (subst₂ (λ u v. Moves u v shift) e f moved)

      counted : Settled 𝓖 R n (k + 1) (slice_index labels') (potential_at 𝓖 potentials') → SettledBy 𝓖 R (k + 1) labels' potentials'
      counted = subst (λ (m : ℕ). Settled 𝓖 R (m + 1) (k + 1) (slice_index labels') (potential_at 𝓖 potentials')) (sym count)

      -- the tail's part moves over to the head's
      pub tail_moves : label b < label a → Moves (label a) (label b) x → SettledBy 𝓖 R (k + 1) labels' potentials'
      tail_moves lower moved =
          counted (tail_joins 𝓖 R n k label p settled _ _ within (omega (arith, tail_label, head_label))
          (moves_same _ _ _ _ _ _ tail_label head_label gap moved))

      -- the head's part moves over to the tail's
      pub head_moves : label a < label b → (y : G) → y ≡ 𝓖.negation x → Moves (label b) (label a) y → SettledBy 𝓖 R (k + 1) labels' potentials'
      head_moves lower y back moved =
          counted (head_joins 𝓖 R n k label p settled _ _ within (omega (arith, tail_label, head_label))
          (moves_same _ _ _ _ _ _ head_label tail_label (back ∙ ap 𝓖.negation gap) moved))
