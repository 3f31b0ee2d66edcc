-- The layer's number of each node and each variable of a part, case by case.
use Rattle.std.proofs.Common.{◌-◌, ap, ◌∙◌, ◌≡◌, ℕ, zero, suc, ◌+◌, ◌<◌, ◌≤◌, sym, subst, ⊎_elim, arith}
use Rattle.std.proofs.lemmas.Bool.{cases_lt}
use Rattle.std.proofs.lemmas.List.{get_or_past}
use Rattle.std.proofs.lemmas.List.FromFn.{length-range_with_len, get_or-range_with_len}
use Rattle.layers.specs.declared.renumbering.Renumbering.{Renumbering}
use Rattle.layers.specs.Renumbered.{absent, new_nodes, new_variables, moved_node, moved_variable}

module _ (r : Renumbering) where
  pub inner_number : (i : ℕ) → i < r.inner → moved_node r (suc (suc i)) ≡ r.inner_from + i
  inner_number i l = get_or-range_with_len r.inner_from r.inner i absent l

  -- the same, by the node's own number
  pub inner_at : (k : ℕ) → 2 ≤ k → k < 2 + r.inner → moved_node r k ≡ r.inner_from + (k - 2)
  inner_at k l h =
      let on : k ≡ suc (suc (k - 2)) = omega arith in
      ap (moved_node r) on ∙ inner_number (k - 2) (omega arith)

  pub no_number : (n : ℕ) → 2 + r.inner ≤ n → moved_node r n ≡ absent
  no_number n l = get_or_past (new_nodes r) n absent (omega (arith, length-range_with_len r.inner_from r.inner))

  pub variable_number : (v : ℕ) → v < r.variables → moved_variable r v ≡ r.variables_from + v
  variable_number v l = get_or-range_with_len r.variables_from r.variables v absent l

  pub no_variable_number : (v : ℕ) → r.variables ≤ v → moved_variable r v ≡ absent
  no_variable_number v l = get_or_past (new_variables r) v absent (omega (arith, length-range_with_len r.variables_from r.variables))

  -- a number below what the part lacks is a node of the part
  pub node_there : (n : ℕ) → moved_node r n < absent → n < 2 + r.inner
  node_there n l = ⊎_elim (λ h. h) (λ h. absurd (omega (arith, no_number n h))) (cases_lt n (2 + r.inner))

  pub variable_there : (v : ℕ) → moved_variable r v < absent → v < r.variables
  variable_there v l = ⊎_elim (λ h. h) (λ h. absurd (omega (arith, no_variable_number v h))) (cases_lt v r.variables)

  -- what holds of the two ends and of each inner node holds of every node of the part
  pub by_node : (P : ℕ → ℕ → Type 0) → P 0 r.first → P 1 r.second → ((i : ℕ) → i < r.inner → P (suc (suc i)) (r.inner_from + i)) → (n : ℕ) → n < 2 + r.inner → P n (moved_node r n)
  by_node P first second inner zero l = first
  by_node P first second inner (suc zero) l = second
  by_node P first second inner (suc (suc i)) l =
      let h : i < r.inner = omega arith in
      subst (P (suc (suc i))) (sym (inner_number i h)) (inner i h)
