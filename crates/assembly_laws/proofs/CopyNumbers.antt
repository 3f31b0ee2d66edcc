-- The nodes and variables of n + 1 copies, and of n copies in series with one more.
use Rattle.std.proofs.Common.{◌≡◌, ℕ, zero, suc, ◌+◌, ◌-◌, ◌*◌, ◌<◌, ◌≤◌, sym, refl, ap, ◌∙◌, ⊎_elim, arith}
use Rattle.std.proofs.lemmas.Bool.{cases_lt}
use Rattle.assembly.specs.declared.plans.Size.{Size}
use Rattle.assembly.specs.Plans.{most_of_plan}
use Rattle.layers.specs.Renumbered.{absent, moved_node, moved_variable}
use Rattle.series.specs.Series.{front_place, back_place}
use Rattle.repeat.specs.Repeat.{stop_at, copy_place}
use Rattle.repeat.proofs.Stops.{joint_stop, last_stop}
use Rattle.repeat.proofs.Turns.{turn_le}
use Rattle.assembly_laws.specs.Swapped.{swapped}
use Rattle.assembly_laws.proofs.Swapped.{swapped_low, swapped_high, swapped_first, swapped_next}
use Rattle.assembly_laws.proofs.Numbers.{inner_at, inner_number, no_number, variable_number, no_variable_number, by_node}

module _ (s w : Size) (n : ℕ) (some : 1 ≤ n) (w_inner : w.inner ≡ n * s.inner + (n - 1)) (few : (n + 1) * s.inner + n ≤ most_of_plan) where
  abbrev to : ℕ → ℕ
  to = swapped (2 + n * s.inner) s.inner (n - 1)

  to_absent : to absent ≡ absent
  to_absent = swapped_high (2 + n * s.inner) s.inner (n - 1) absent (omega arith)

  -- the node where the last copy begins
  last_first : to (stop_at s (n + 1) n) ≡ 2 + w.inner + s.inner
  last_first =
      let at : stop_at s (n + 1) n ≡ 2 + w.inner + s.inner = sym (joint_stop s (n + 1) n (λ e. absurd (omega arith)) (omega arith)) ∙ omega arith in
      ap to at ∙ swapped_high (2 + n * s.inner) s.inner (n - 1) (2 + w.inner + s.inner) (omega arith)

  last_second : to (stop_at s (n + 1) (n + 1)) ≡ 1
  last_second =
      ap to (sym (last_stop s (n + 1) (n + 1) (λ e. absurd (omega arith)) refl)) ∙ swapped_low (2 + n * s.inner) s.inner (n - 1) 1 (omega arith)

  stop_same : (i : ℕ) → i ≤ n → to (stop_at s (n + 1) i) ≡ moved_node (front_place w s) (stop_at s n i)
  stop_same zero l = swapped_low (2 + n * s.inner) s.inner (n - 1) 0 (omega arith)
  stop_same (suc i) l =
      ⊎_elim
      (λ (h : suc i < n).
      let at : stop_at s (n + 1) (suc i) ≡ 2 + n * s.inner + s.inner + i = sym (joint_stop s (n + 1) (suc i) (λ e. absurd (omega arith)) (omega arith)) ∙ omega arith in
      let here : stop_at s n (suc i) ≡ 2 + n * s.inner + i = sym (joint_stop s n (suc i) (λ e. absurd (omega arith)) h) ∙ omega arith in
      let left : to (2 + n * s.inner + s.inner + i) ≡ 2 + n * s.inner + i = swapped_next (2 + n * s.inner) s.inner (n - 1) (2 + n * s.inner + s.inner + i) (omega arith) (omega arith) ∙ omega arith in
      let right : moved_node (front_place w s) (2 + n * s.inner + i) ≡ 2 + n * s.inner + i = inner_at (front_place w s) (2 + n * s.inner + i) (omega arith) (omega arith) ∙ omega arith in
      ap to at ∙ left ∙ sym (ap (moved_node (front_place w s)) here ∙ right))
      (λ h.
      let e : suc i ≡ n = omega arith in
      ap (λ j. to (stop_at s (n + 1) j)) e ∙ last_first ∙ ap (moved_node (front_place w s)) (last_stop s n (suc i) (λ z. absurd (omega arith)) e))
      (cases_lt (suc i) n)

  -- copy i, of the first n
  pub copy_node : (i : ℕ) → i < n → (k : ℕ) → to (moved_node (copy_place s (n + 1) i) k) ≡ moved_node (front_place w s) (moved_node (copy_place s n i) k)
  copy_node i h k =
      ⊎_elim
      (by_node (copy_place s (n + 1) i) (λ k num. to num ≡ moved_node (front_place w s) (moved_node (copy_place s n i) k))
      (stop_same i (omega arith)) (stop_same (i + 1) (omega arith))
      (λ j l.
      let within = turn_le i n s.inner h in
      swapped_low (2 + n * s.inner) s.inner (n - 1) (2 + i * s.inner + j) (omega arith)
      ∙ sym (ap (moved_node (front_place w s)) (inner_number (copy_place s n i) j l) ∙ inner_at (front_place w s) (2 + i * s.inner + j) (omega arith) (omega arith) ∙ omega arith))
      k)
      (λ past.
      ap to (no_number (copy_place s (n + 1) i) k past) ∙ to_absent
      ∙ sym (ap (moved_node (front_place w s)) (no_number (copy_place s n i) k past) ∙ no_number (front_place w s) absent (omega arith)))
      (cases_lt k (2 + s.inner))

  pub last_node : (k : ℕ) → to (moved_node (copy_place s (n + 1) n) k) ≡ moved_node (back_place w s) k
  last_node k =
      ⊎_elim
      (by_node (copy_place s (n + 1) n) (λ k num. to num ≡ moved_node (back_place w s) k)
      last_first last_second
      (λ j l.
      swapped_first (2 + n * s.inner) s.inner (n - 1) (2 + n * s.inner + j) (omega arith) (omega arith) ∙ omega arith ∙ sym (inner_number (back_place w s) j l))
      k)
      (λ past. ap to (no_number (copy_place s (n + 1) n) k past) ∙ to_absent ∙ sym (no_number (back_place w s) k past))
      (cases_lt k (2 + s.inner))

module _ (s w : Size) (n : ℕ) (w_variables : w.variables ≡ n * s.variables) (few : (n + 1) * s.variables ≤ most_of_plan) where
  pub copy_variable : (i : ℕ) → i < n → (v : ℕ) → moved_variable (copy_place s (n + 1) i) v ≡ moved_variable (front_place w s) (moved_variable (copy_place s n i) v)
  copy_variable i h v =
      ⊎_elim
      (λ l.
      let within = turn_le i n s.variables h in
      variable_number (copy_place s (n + 1) i) v l
      ∙ sym (ap (moved_variable (front_place w s)) (variable_number (copy_place s n i) v l) ∙ variable_number (front_place w s) (i * s.variables + v) (omega arith) ∙ omega arith))
      (λ past.
      no_variable_number (copy_place s (n + 1) i) v past
      ∙ sym (ap (moved_variable (front_place w s)) (no_variable_number (copy_place s n i) v past) ∙ no_variable_number (front_place w s) absent (omega arith)))
      (cases_lt v s.variables)

  pub last_variable : (v : ℕ) → moved_variable (copy_place s (n + 1) n) v ≡ moved_variable (back_place w s) v
  last_variable v =
      ⊎_elim (λ l. variable_number (copy_place s (n + 1) n) v l ∙ omega arith ∙ sym (variable_number (back_place w s) v l))
      (λ past. no_variable_number (copy_place s (n + 1) n) v past ∙ sym (no_variable_number (back_place w s) v past)) (cases_lt v s.variables)
