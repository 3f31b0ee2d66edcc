-- The nodes of two parts between p and q: in a series that is placed, and where they are placed one by one on
-- a joint that is drawn before them.
use Rattle.std.proofs.Common.{Option, unwrap_or, ◌≡◌, ℕ, suc, ◌+◌, ◌-◌, ◌<◌, ◌≤◌, List, [], ◌∷◌, ◌++◌, length, get_or, sym, ap, ◌∙◌, arith}
use Rattle.std.proofs.lemmas.Bool.{cond-false, le-ltb}
use Rattle.std.proofs.lemmas.List.{append_assoc, append-nil}
use Rattle.std.proofs.lemmas.Option.{unwrap_or-slice_get}
use Rattle.netlist.specs.Netlist.{Netlist}
use Rattle.assembly.specs.declared.plans.Size.{Size}
use Rattle.layers.specs.Renumbered.{moved_node}
use Rattle.series.specs.Series.{front_place, back_place}
use Rattle.assembly_laws.proofs.Swapped.{swapped_get}
use Rattle.assembly_laws.proofs.Turned.{before, before_low, before_last, before_rest}
use Rattle.assembly_laws.proofs.Numbers.{by_node}
use Rattle.assembly_laws.proofs.Renamed.{placed_node}

-- One that stands behind others, or before them: what stands where.
pub turned_at : (ds ks : List ℕ) (y k : ℕ) → get_or ((ds ++ y ∷ []) ++ ks) (before (length ds) (length ks) k) 0 ≡ get_or (ds ++ (ks ++ y ∷ [])) k 0
turned_at ds ks y k =
    let here = before (length ds) (length ks) k in
    let there : (ds ++ y ∷ []) ++ ks ≡ ds ++ (y ∷ (ks ++ [])) = append_assoc ds (y ∷ []) ks ∙ ap (λ (zs : List ℕ). ds ++ (y ∷ zs)) (sym (append-nil ks)) in
    ap (λ (zs : List ℕ). get_or zs here 0) there ∙ sym (unwrap_or-slice_get (ds ++ (y ∷ (ks ++ []))) here 0)
    ∙ ap (λ (o : Option ℕ). unwrap_or o 0) (swapped_get ds ks (y ∷ []) [] k) ∙ unwrap_or-slice_get (ds ++ (ks ++ y ∷ [])) k 0

pub inner_placed : (b : Netlist) (x y n : ℕ) → 2 ≤ n → placed_node b (x ∷ y ∷ []) n ≡ length b.domains + (n - 2)
inner_placed b x y n l = cond-false _ _ _ (le-ltb n 2 l)

-- node k of a part is `num` in the series, and there and here it becomes one node but for the turn
pub record Same (to : ℕ → ℕ) (top top' there here : ℕ) : Type 0 where
  pub is : to there ≡ here
  pub drawn : there < top
  pub here_drawn : here < top'

module _ (b : Netlist) (p q : ℕ) (pl : p < length b.domains) (ql : q < length b.domains) (s t : Size) where
  abbrev turn : ℕ → ℕ
  turn = before (length b.domains) (s.inner + t.inner)

  abbrev top : ℕ
  top = length b.domains + (s.inner + t.inner + 1)

  joint_turned : turn (placed_node b (p ∷ q ∷ []) (2 + s.inner + t.inner)) ≡ length b.domains
  joint_turned =
      let at : placed_node b (p ∷ q ∷ []) (2 + s.inner + t.inner) ≡ length b.domains + (s.inner + t.inner) = inner_placed b p q (2 + s.inner + t.inner) (omega arith) ∙ omega arith in
      ap turn at ∙ before_last (length b.domains) (s.inner + t.inner)

  joint_drawn : placed_node b (p ∷ q ∷ []) (2 + s.inner + t.inner) < top
  joint_drawn = omega (arith, inner_placed b p q (2 + s.inner + t.inner) (omega arith))

  inner_turned : (i : ℕ) → i < s.inner + t.inner → Same turn top (length b.domains + 1 + (i + 1)) (placed_node b (p ∷ q ∷ []) (2 + i)) (length b.domains + 1 + i)
  inner_turned i l =
      let at : placed_node b (p ∷ q ∷ []) (2 + i) ≡ length b.domains + i = inner_placed b p q (2 + i) (omega arith) ∙ omega arith in
      record {
        is = ap turn at ∙ before_rest (length b.domains) (s.inner + t.inner) (length b.domains + i) (omega arith) (omega arith) ∙ omega arith;
        drawn = omega arith;
        here_drawn = omega arith;
      }

  -- the first part, on a netlist c that has one node more than b
  pub front_node : (c : Netlist) → length c.domains ≡ length b.domains + 1 → (k : ℕ) → k < 2 + s.inner → Same turn top (length b.domains + 1 + s.inner) (placed_node b (p ∷ q ∷ []) (moved_node (front_place s t) k)) (placed_node c (p ∷ length b.domains ∷ []) k)
  front_node c more =
      by_node (front_place s t) (λ k num. Same turn top (length b.domains + 1 + s.inner) (placed_node b (p ∷ q ∷ []) num) (placed_node c (p ∷ length b.domains ∷ []) k))
      (record { is = before_low (length b.domains) (s.inner + t.inner) p pl; drawn = omega arith; here_drawn = omega arith })
      (record { is = joint_turned; drawn = joint_drawn; here_drawn = omega arith })
      (λ i l.
      let h = inner_turned i (omega arith) in
      let at : placed_node c (p ∷ length b.domains ∷ []) (suc (suc i)) ≡ length b.domains + 1 + i = inner_placed c p (length b.domains) (suc (suc i)) (omega arith) ∙ omega arith in
      record { is = h.is ∙ sym at; drawn = h.drawn; here_drawn = omega arith })

  -- the second, on a netlist that has the first part's inner nodes as well
  pub back_node : (c : Netlist) → length c.domains ≡ length b.domains + 1 + s.inner → (k : ℕ) → k < 2 + t.inner → Same turn top (length b.domains + 1 + s.inner + t.inner) (placed_node b (p ∷ q ∷ []) (moved_node (back_place s t) k)) (placed_node c (length b.domains ∷ q ∷ []) k)
  back_node c more =
      by_node (back_place s t) (λ k num. Same turn top (length b.domains + 1 + s.inner + t.inner) (placed_node b (p ∷ q ∷ []) num) (placed_node c (length b.domains ∷ q ∷ []) k))
      (record { is = joint_turned; drawn = joint_drawn; here_drawn = omega arith })
      (record { is = before_low (length b.domains) (s.inner + t.inner) q ql; drawn = omega arith; here_drawn = omega arith })
      (λ i l.
      let h = inner_turned (s.inner + i) (omega arith) in
      let from : 2 + s.inner + i ≡ 2 + (s.inner + i) = omega arith in
      let at : placed_node c (length b.domains ∷ q ∷ []) (suc (suc i)) ≡ length b.domains + 1 + (s.inner + i) = inner_placed c (length b.domains) q (suc (suc i)) (omega arith) ∙ omega arith in
      record {
        is = ap (λ n. turn (placed_node b (p ∷ q ∷ []) n)) from ∙ h.is ∙ sym at;
        drawn = omega (arith, ap (placed_node b (p ∷ q ∷ [])) from, h.drawn);
        here_drawn = omega arith;
      })
