-- The last row taken back: its two variables are free again.
use Rattle.std.proofs.Common.{◌≡◌, ℕ, ◌<◌, ◌≤◌, Bool, false, List, [], ◌∷◌, ◌++◌, length, get_or, set, sym, ap, ◌∙◌, ⊎_elim, arith, refl}
use Rattle.std.proofs.lemmas.List.{get_or-set_same, get_or-set_other, length-set}
use Rattle.std.proofs.lemmas.Bool.{eq-eqb, ne_eqb, cases_eq, cases_lt}
use Rattle.netlist.specs.declared.rows.Row.{Row}
use Rattle.netlist.specs.Flags.{Marked}
use Rattle.netlist.specs.Rows.{bit, hits, uses, flow_of, across_of}
use Rattle.netlist.proofs.Taking.{uses_push, marked_once, marked_drawn}

-- how often the row has v
hits_across : (row : Row ℕ) (v : ℕ) → v ≡ across_of row → 1 ≤ hits row v
hits_across row v e = let h = ap bit (eq-eqb (across_of row) v (sym e)) in omega arith

hits_flow : (row : Row ℕ) (v : ℕ) → v ≡ flow_of row → 1 ≤ hits row v
hits_flow row v e = let h = ap bit (eq-eqb (flow_of row) v (sym e)) in omega arith

hits_other : (row : Row ℕ) (v : ℕ) → (v ≡ across_of row → ⊥) → (v ≡ flow_of row → ⊥) → hits row v ≡ 0
hits_other row v n m =
    let h = ap bit (ne_eqb (across_of row) v (λ e. n (sym e))) in
    let k = ap bit (ne_eqb (flow_of row) v (λ e. m (sym e))) in
    omega arith

-- a variable that is used has a flag
flagged : (taken : List Bool) (rows : List (Row ℕ)) → Marked taken rows → (v : ℕ) → 1 ≤ uses rows v → v < length taken
flagged taken rows h v u =
    ⊎_elim (λ (l : v < length taken). l) (λ l. let none = marked_drawn taken rows h v l in absurd (omega arith)) (cases_lt v (length taken))

-- the flags once the row is taken back
abbrev pub lowered : List Bool → Row ℕ → List Bool
lowered flags row = set (set flags (flow_of row) false) (across_of row) false

module _ (taken : List Bool) (rows : List (Row ℕ)) (row : Row ℕ) (h : Marked taken (rows ++ row ∷ [])) where
  pub last_flow : flow_of row < length taken
  last_flow = flagged taken _ h (flow_of row) (omega (arith, uses_push rows row (flow_of row), hits_flow row (flow_of row) refl))

  pub last_across : across_of row < length taken
  last_across = flagged taken _ h (across_of row) (omega (arith, uses_push rows row (across_of row), hits_across row (across_of row) refl))

  -- the flag of v afterwards
  at_across : (v : ℕ) → v ≡ across_of row → get_or (lowered taken row) v false ≡ false
  at_across v e =
      let long = length-set taken (flow_of row) false in
      let across = last_across in
      ap (λ k. get_or (lowered taken row) k false) e ∙ get_or-set_same (set taken (flow_of row) false) (across_of row) false false (omega arith)

  at_flow : (v : ℕ) → (v ≡ across_of row → ⊥) → v ≡ flow_of row → get_or (lowered taken row) v false ≡ false
  at_flow v n e =
      get_or-set_other (set taken (flow_of row) false) (across_of row) v false false n
      ∙ ap (λ k. get_or (set taken (flow_of row) false) k false) e
      ∙ get_or-set_same taken (flow_of row) false false last_flow

  at_other : (v : ℕ) → (v ≡ across_of row → ⊥) → (v ≡ flow_of row → ⊥) → get_or (lowered taken row) v false ≡ get_or taken v false
  at_other v n m = get_or-set_other (set taken (flow_of row) false) (across_of row) v false false n ∙ get_or-set_other taken (flow_of row) v false false m

  pub marked_less : Marked (lowered taken row) rows
  marked_less v =
      let pushed = uses_push rows row v in
      let once = marked_once taken _ h v in
      ⊎_elim
      (λ (e : v ≡ across_of row).
      let flag = ap bit (at_across v e) in
      let one = hits_across row v e in
      omega arith)
      (λ n. ⊎_elim
      (λ (e : v ≡ flow_of row).
      let flag = ap bit (at_flow v n e) in
      let one = hits_flow row v e in
      omega arith)
      (λ m.
      let flag = ap bit (at_other v n m) in
      let none = hits_other row v n m in
      omega (arith, h v))
      (cases_eq v (flow_of row)))
      (cases_eq v (across_of row))
