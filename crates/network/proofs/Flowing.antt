-- The net flow out of a set of nodes, from the excesses of its nodes.
use Rattle.std.proofs.Common.{◌≡◌, ℕ, zero, suc, ◌+◌, ◌<◌, Bool, true, false, cond, eqb, List, [], ◌∷◌, sym, refl, ap, ◌∙◌, ap₂, ⊎_elim, arith}
use Rattle.std.proofs.lemmas.Bool.{eq-eqb, ne_eqb, cases_order, cond-true, cond-false}
use Rattle.quantity.specs.Group.{Group}
use Rattle.netlist.specs.Rows.{flow_of}
use Rattle.netlist.specs.declared.rows.Row.{Row}
use Rattle.netlist.specs.declared.rows.Row.TheVariants.{Branch, Earth}
use Rattle.network.specs.Walks.{tail_of, head_of, read, Drawn}
use Rattle.network.specs.Flows.{sum_below, crossing, leaves, only, net_flow, excess, FlowIsExcess, SetsKeepAsNodes}
use Rattle.quantity.proofs.Groups.{right, swap_middle}

module _ {G : Type 0} (𝓖 : Group G) where
  pub sum_same : (n : ℕ) (f h : ℕ → G) → ((i : ℕ) → i < n → f i ≡ h i) → sum_below 𝓖 n f ≡ sum_below 𝓖 n h
  sum_same zero f h e = refl
  sum_same (suc n) f h e = ap₂ 𝓖.sum (sum_same n f h (λ i l. e i (omega arith))) (e n (omega arith))

  pub sum_zero : (n : ℕ) → sum_below 𝓖 n (λ _. 𝓖.zero) ≡ 𝓖.zero
  sum_zero zero = refl
  sum_zero (suc n) = ap (λ x. 𝓖.sum x 𝓖.zero) (sum_zero n) ∙ 𝓖.neutral 𝓖.zero

  pub sum_of_zeros : (n : ℕ) (f : ℕ → G) → ((i : ℕ) → i < n → f i ≡ 𝓖.zero) → sum_below 𝓖 n f ≡ 𝓖.zero
  sum_of_zeros n f e = sum_same n f (λ _. 𝓖.zero) e ∙ sum_zero n

  pub sum_plus : (n : ℕ) (f h : ℕ → G) → sum_below 𝓖 n (λ i. 𝓖.sum (f i) (h i)) ≡ 𝓖.sum (sum_below 𝓖 n f) (sum_below 𝓖 n h)
  sum_plus zero f h = sym (𝓖.neutral 𝓖.zero)
  sum_plus (suc n) f h = ap (λ x. 𝓖.sum x (𝓖.sum (f n) (h n))) (sum_plus n f h) ∙ swap_middle 𝓖 _ _ _ _

  -- a table adds to the same by rows and by columns
  pub sum_swap : (n m : ℕ) (f : ℕ → ℕ → G) → sum_below 𝓖 n (λ i. sum_below 𝓖 m (λ j. f i j)) ≡ sum_below 𝓖 m (λ j. sum_below 𝓖 n (λ i. f i j))
  sum_swap zero m f = sym (sum_zero m)
  sum_swap (suc n) m f = ap (λ x. 𝓖.sum x (sum_below 𝓖 m (f n))) (sum_swap n m f) ∙ sym (sum_plus m (λ j. sum_below 𝓖 n (λ i. f i j)) (f n))

  pub cond_zero : (b : Bool) → cond b 𝓖.zero 𝓖.zero ≡ 𝓖.zero
  cond_zero true = refl
  cond_zero false = refl

  cond_swap : (b c : Bool) (x : G) → cond b (cond c x 𝓖.zero) 𝓖.zero ≡ cond c (cond b x 𝓖.zero) 𝓖.zero
  cond_swap true c x = refl
  cond_swap false c x = sym (cond_zero c)

  -- of all numbers only t counts
  pub sum_pick : (n t : ℕ) (f : ℕ → G) → t < n → sum_below 𝓖 n (λ v. cond (eqb t v) (f v) 𝓖.zero) ≡ f t
  sum_pick zero t f l = absurd (omega arith)
  sum_pick (suc n) t f l =
      ⊎_elim
      (λ e. ap₂ 𝓖.sum (sum_of_zeros n _ (λ v lt. out v (omega arith))) (cond-true (eqb t n) _ _ (eq-eqb t n e) ∙ ap f (sym e)) ∙ 𝓖.neutral _)
      (⊎_elim
      (λ lt. ap₂ 𝓖.sum (sum_pick n t f lt) (out n (omega arith)) ∙ right 𝓖 _)
      (λ gt. absurd (omega arith)))
      (cases_order t n)
    where
      out : (v : ℕ) → (t ≡ v → ⊥) → cond (eqb t v) (f v) 𝓖.zero ≡ 𝓖.zero
      out v ne = cond-false (eqb t v) _ _ (ne_eqb t v ne)

  -- x at the vertex t, if that is inside
  pub sum_at : (inside : ℕ → Bool) (x : G) (n t : ℕ) → t < n → sum_below 𝓖 n (λ v. cond (inside v) (cond (eqb t v) x 𝓖.zero) 𝓖.zero) ≡ cond (inside t) x 𝓖.zero
  sum_at inside x n t l = sum_same n _ _ (λ v _. cond_swap (inside v) (eqb t v) x) ∙ sum_pick n t (λ v. cond (inside v) x 𝓖.zero) l

  -- a row's two ends count apart
  pub crossing_ends : (b c : Bool) (x : G) → crossing 𝓖 b c x ≡ 𝓖.sum (cond b x 𝓖.zero) (cond c (𝓖.negation x) 𝓖.zero)
  crossing_ends true true x = sym (𝓖.inverse x)
  crossing_ends true false x = sym (right 𝓖 x)
  crossing_ends false true x = sym (𝓖.neutral _)
  crossing_ends false false x = sym (𝓖.neutral _)

  cond_plus : (b : Bool) (x y : G) → cond b (𝓖.sum x y) 𝓖.zero ≡ 𝓖.sum (cond b x 𝓖.zero) (cond b y 𝓖.zero)
  cond_plus true x y = refl
  cond_plus false x y = sym (𝓖.neutral _)

  pub cond_sum : (b : Bool) (m : ℕ) (f : ℕ → G) → cond b (sum_below 𝓖 m f) 𝓖.zero ≡ sum_below 𝓖 m (λ j. cond b (f j) 𝓖.zero)
  cond_sum true m f = refl
  cond_sum false m f = sym (sum_zero m)

  -- one row
  pub crossing_sum : (inside : ℕ → Bool) (n t h : ℕ) (x : G) → t < n → h < n → crossing 𝓖 (inside t) (inside h) x ≡ sum_below 𝓖 n (λ v. cond (inside v) (crossing 𝓖 (eqb t v) (eqb h v) x) 𝓖.zero)
  crossing_sum inside n t h x lt lh =
      crossing_ends (inside t) (inside h) x
      ∙ sym (ap₂ 𝓖.sum (sum_at inside x n t lt) (sum_at inside (𝓖.negation x) n h lh))
      ∙ sym (sum_plus n _ _)
      ∙ sum_same n _ _ (λ v _. sym (ap (λ y. cond (inside v) y 𝓖.zero) (crossing_ends (eqb t v) (eqb h v) x) ∙ cond_plus (inside v) _ _))

  leaves_sum : (inside : ℕ → Bool) (n : ℕ) (x : G) (row : Row ℕ) → (tail_of row < n + 1) × (head_of row < n + 1) → leaves 𝓖 inside row x ≡ sum_below 𝓖 n (λ u. cond (inside u) (leaves 𝓖 (only u) row x) 𝓖.zero)
  leaves_sum inside n x (Branch flow across first second) within = crossing_sum inside n first second x (omega arith) (omega arith)
  leaves_sum inside n x (Earth flow across node) within = sym (sum_at inside x n node (omega arith))

  flows : (rows : List (Row ℕ)) (values : List G) (n : ℕ) → Drawn rows n → (inside : ℕ → Bool) → net_flow 𝓖 rows values inside ≡ sum_below 𝓖 n (λ u. cond (inside u) (excess 𝓖 rows values u) 𝓖.zero)
  flows [] values n ends inside = sym (sum_of_zeros n _ (λ u _. cond_zero (inside u)))
  flows (row ∷ rows) values n ends inside =
      ap₂ 𝓖.sum (leaves_sum inside n (read 𝓖 values (flow_of row)) row (ends 0 (omega arith))) (flows rows values n (λ j l. ends (suc j) (omega arith)) inside)
      ∙ sym (sum_plus n _ _)
      ∙ sum_same n _ _ (λ u _. sym (cond_plus (inside u) _ _))

  pub flow_is_excess : FlowIsExcess 𝓖
  flow_is_excess rows values n drawn inside = flows rows values n drawn inside

  pub sets_keep_as_nodes : SetsKeepAsNodes 𝓖
  sets_keep_as_nodes rows values n drawn = (
    λ keep u l. keep (only u),
    λ keep inside. flow_is_excess rows values n drawn inside ∙ sum_of_zeros n _ (λ u l. ap (λ y. cond (inside u) y 𝓖.zero) (keep u l) ∙ cond_zero (inside u)),
  )
