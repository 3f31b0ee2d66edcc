-- The nodes and variables of three parts in series, taken together in two ways.
use Rattle.std.proofs.Common.{◌≡◌, ℕ, ◌+◌, ◌≤◌, sym, ap, ◌∙◌, ⊎_elim, arith}
use Rattle.std.proofs.lemmas.Bool.{cases_lt}
use Rattle.assembly.specs.declared.plans.Size.{Size}
use Rattle.assembly.specs.Plans.{most_of_plan}
use Rattle.layers.specs.declared.renumbering.Renumbering.{Renumbering}
use Rattle.layers.specs.Renumbered.{absent, moved_node, moved_variable}
use Rattle.series.specs.Series.{front_place, back_place}
use Rattle.assembly_laws.proofs.Turned.{behind, behind_low, behind_high, behind_first, behind_rest}
use Rattle.assembly_laws.proofs.Numbers.{inner_at, inner_number, no_number, variable_number, no_variable_number, by_node}

module _ (s t w st tw : Size) (st_inner : st.inner ≡ s.inner + t.inner + 1) (tw_inner : tw.inner ≡ t.inner + w.inner + 1) (few : s.inner + t.inner + w.inner + 2 ≤ most_of_plan) where
  abbrev to : ℕ → ℕ
  to = behind (2 + s.inner + t.inner) (w.inner + 1)

  to_absent : to absent ≡ absent
  to_absent = behind_high (2 + s.inner + t.inner) (w.inner + 1) absent (omega arith)

  -- the part lacks the node, and so do the layers
  lacks : (r : Renumbering) (k : ℕ) → k ≡ absent → r.inner ≤ most_of_plan → moved_node r k ≡ absent
  lacks r k e l = no_number r k (omega arith)

  -- the joint of the first two
  joint_left : moved_node (front_place st w) (2 + s.inner + t.inner) ≡ 2 + s.inner + t.inner
  joint_left = inner_at (front_place st w) (2 + s.inner + t.inner) (omega arith) (omega arith) ∙ omega arith

  -- the joint of the last two
  joint_right : moved_node (back_place s tw) (2 + t.inner + w.inner) ≡ 2 + s.inner + t.inner + w.inner
  joint_right = inner_at (back_place s tw) (2 + t.inner + w.inner) (omega arith) (omega arith) ∙ omega arith

  pub first_node : (k : ℕ) → to (moved_node (front_place st w) (moved_node (front_place s t) k)) ≡ moved_node (front_place s tw) k
  first_node k =
      ⊎_elim
      (by_node (front_place s t) (λ k num. to (moved_node (front_place st w) num) ≡ moved_node (front_place s tw) k)
      (behind_low (2 + s.inner + t.inner) (w.inner + 1) 0 (omega arith))
      (ap to joint_left ∙ behind_first (2 + s.inner + t.inner) (w.inner + 1) ∙ omega arith)
      (λ i l.
      let at : moved_node (front_place st w) (2 + i) ≡ 2 + i = inner_at (front_place st w) (2 + i) (omega arith) (omega arith) ∙ omega arith in
      ap to at ∙ behind_low (2 + s.inner + t.inner) (w.inner + 1) (2 + i) (omega arith) ∙ sym (inner_number (front_place s tw) i l))
      k)
      (λ past.
      ap to (lacks (front_place st w) (moved_node (front_place s t) k) (no_number (front_place s t) k past) (omega arith)) ∙ to_absent
      ∙ sym (no_number (front_place s tw) k past))
      (cases_lt k (2 + s.inner))

  pub second_node : (k : ℕ) → to (moved_node (front_place st w) (moved_node (back_place s t) k)) ≡ moved_node (back_place s tw) (moved_node (front_place t w) k)
  second_node k =
      ⊎_elim
      (by_node (back_place s t) (λ k num. to (moved_node (front_place st w) num) ≡ moved_node (back_place s tw) (moved_node (front_place t w) k))
      (ap to joint_left ∙ behind_first (2 + s.inner + t.inner) (w.inner + 1) ∙ omega arith)
      (behind_rest (2 + s.inner + t.inner) (w.inner + 1) (2 + st.inner + w.inner) (omega arith) (omega arith) ∙ omega (arith, joint_right))
      (λ i l.
      let at : moved_node (front_place st w) (2 + s.inner + i) ≡ 2 + s.inner + i = inner_at (front_place st w) (2 + s.inner + i) (omega arith) (omega arith) ∙ omega arith in
      let right : moved_node (back_place s tw) (2 + i) ≡ 2 + s.inner + i = inner_at (back_place s tw) (2 + i) (omega arith) (omega arith) ∙ omega arith in
      ap to at ∙ behind_low (2 + s.inner + t.inner) (w.inner + 1) (2 + s.inner + i) (omega arith)
      ∙ sym (ap (moved_node (back_place s tw)) (inner_number (front_place t w) i l) ∙ right))
      k)
      (λ past.
      ap to (lacks (front_place st w) (moved_node (back_place s t) k) (no_number (back_place s t) k past) (omega arith)) ∙ to_absent
      ∙ sym (lacks (back_place s tw) (moved_node (front_place t w) k) (no_number (front_place t w) k past) (omega arith)))
      (cases_lt k (2 + t.inner))

  pub third_node : (k : ℕ) → to (moved_node (back_place st w) k) ≡ moved_node (back_place s tw) (moved_node (back_place t w) k)
  third_node k =
      ⊎_elim
      (by_node (back_place st w) (λ k num. to num ≡ moved_node (back_place s tw) (moved_node (back_place t w) k))
      (behind_rest (2 + s.inner + t.inner) (w.inner + 1) (2 + st.inner + w.inner) (omega arith) (omega arith) ∙ omega (arith, joint_right))
      (behind_low (2 + s.inner + t.inner) (w.inner + 1) 1 (omega arith))
      (λ i l.
      let right : moved_node (back_place s tw) (2 + t.inner + i) ≡ 2 + s.inner + t.inner + i = inner_at (back_place s tw) (2 + t.inner + i) (omega arith) (omega arith) ∙ omega arith in
      behind_rest (2 + s.inner + t.inner) (w.inner + 1) (2 + st.inner + i) (omega arith) (omega arith) ∙ omega (arith, right)
      ∙ sym (ap (moved_node (back_place s tw)) (inner_number (back_place t w) i l)))
      k)
      (λ past.
      ap to (no_number (back_place st w) k past) ∙ to_absent
      ∙ sym (lacks (back_place s tw) (moved_node (back_place t w) k) (no_number (back_place t w) k past) (omega arith)))
      (cases_lt k (2 + w.inner))

module _ (s t w st tw : Size) (st_variables : st.variables ≡ s.variables + t.variables) (tw_variables : tw.variables ≡ t.variables + w.variables) (few : s.variables + t.variables + w.variables ≤ most_of_plan) where
  lacks_variable : (r : Renumbering) (v : ℕ) → v ≡ absent → r.variables ≤ most_of_plan → moved_variable r v ≡ absent
  lacks_variable r v e l = no_variable_number r v (omega arith)

  pub first_variable : (v : ℕ) → moved_variable (front_place st w) (moved_variable (front_place s t) v) ≡ moved_variable (front_place s tw) v
  first_variable v =
      ⊎_elim
      (λ l. ap (moved_variable (front_place st w)) (variable_number (front_place s t) v l) ∙ variable_number (front_place st w) (0 + v) (omega arith) ∙ omega (arith, variable_number (front_place s tw) v l))
      (λ past.
      lacks_variable (front_place st w) (moved_variable (front_place s t) v) (no_variable_number (front_place s t) v past) (omega arith)
      ∙ sym (no_variable_number (front_place s tw) v past))
      (cases_lt v s.variables)

  pub second_variable : (v : ℕ) → moved_variable (front_place st w) (moved_variable (back_place s t) v) ≡ moved_variable (back_place s tw) (moved_variable (front_place t w) v)
  second_variable v =
      ⊎_elim
      (λ l.
      ap (moved_variable (front_place st w)) (variable_number (back_place s t) v l) ∙ variable_number (front_place st w) (s.variables + v) (omega arith)
      ∙ omega arith ∙ sym (ap (moved_variable (back_place s tw)) (variable_number (front_place t w) v l) ∙ variable_number (back_place s tw) (0 + v) (omega arith)))
      (λ past.
      lacks_variable (front_place st w) (moved_variable (back_place s t) v) (no_variable_number (back_place s t) v past) (omega arith)
      ∙ sym (lacks_variable (back_place s tw) (moved_variable (front_place t w) v) (no_variable_number (front_place t w) v past) (omega arith)))
      (cases_lt v t.variables)

  pub third_variable : (v : ℕ) → moved_variable (back_place st w) v ≡ moved_variable (back_place s tw) (moved_variable (back_place t w) v)
  third_variable v =
      ⊎_elim
      (λ l.
      variable_number (back_place st w) v l ∙ omega arith
      ∙ sym (ap (moved_variable (back_place s tw)) (variable_number (back_place t w) v l) ∙ variable_number (back_place s tw) (t.variables + v) (omega arith)))
      (λ past.
      no_variable_number (back_place st w) v past
      ∙ sym (lacks_variable (back_place s tw) (moved_variable (back_place t w) v) (no_variable_number (back_place t w) v past) (omega arith)))
      (cases_lt v w.variables)
