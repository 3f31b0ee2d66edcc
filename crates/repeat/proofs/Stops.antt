-- The nodes where the copies meet.
use Rattle.std.proofs.Common.{◌≡◌, ℕ, zero, suc, ◌+◌, ◌-◌, ◌*◌, ◌<◌, [], ◌∷◌, length, sym, refl, ◌∙◌, arith}
use Rattle.std.specs.List.{range_with_len}
use Rattle.std.proofs.lemmas.List.{get_or_append_left, get_or_at}
use Rattle.std.proofs.lemmas.List.FromFn.{length-range_with_len, get_or-range_with_len}
use Rattle.assembly.specs.declared.plans.Size.{Size}
use Rattle.layers.specs.Renumbered.{absent}
use Rattle.repeat.specs.Repeat.{stop_at}

module _ (a : Size) (n : ℕ) where
  pub joint_stop : (i : ℕ) → (i ≡ 0 → ⊥) → i < n → 2 + n * a.inner + (i - 1) ≡ stop_at a n i
  joint_stop zero apart l = absurd (apart refl)
  joint_stop (suc i) apart l =
      let from = 2 + n * a.inner in
      let joints = range_with_len from (n - 1) in
      let within : i < length joints = omega (arith, length-range_with_len from (n - 1)) in
      let at : from + (suc i - 1) ≡ from + i = omega arith in
      at ∙ sym (get_or_append_left joints (1 ∷ []) absent i within ∙ get_or-range_with_len from (n - 1) i absent (omega arith))

  pub last_stop : (i : ℕ) → (i ≡ 0 → ⊥) → i ≡ n → 1 ≡ stop_at a n i
  last_stop zero apart e = absurd (apart refl)
  last_stop (suc i) apart e =
      let from = 2 + n * a.inner in
      let joints = range_with_len from (n - 1) in
      let all : length joints ≡ i = omega (arith, length-range_with_len from (n - 1)) in
      sym (get_or_at joints 1 [] absent i all)
