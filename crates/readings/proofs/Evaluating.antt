-- What each kind of listed equation comes to.
use Rattle.std.proofs.Common.{◌≡◌, ℕ, suc, ◌+◌, ◌-◌, ◌<◌, ◌≤◌, Bool, true, false, cond, eqb, ltb, List, [], ◌∷◌, ◌++◌, length, take, ℤ, Some, None, sym, refl, ap, ◌∙◌, ap₂, add-one, arith}
use Rattle.std.specs.Option.{option_to_list}
use Rattle.std.proofs.lemmas.Bool.{and_parts, lt-ltb, le-ltb, cond-true, cond-false, eqb-true, eqb-false, false≢true}
use Rattle.std.proofs.lemmas.List.{take_more}
use Rattle.quantity.specs.Group.{Group, minus}
use Rattle.quantity.proofs.Groups.{right, negation_minus, minus_zero}
use Rattle.quantity.proofs.Multiplying.{multiple_one, multiple_minus_one}
use Rattle.netlist.specs.declared.rows.Row.{Row}
use Rattle.netlist.specs.declared.rows.Row.TheVariants.{Branch, Earth}
use Rattle.netlist.specs.declared.terms.Term.{Term}
use Rattle.netlist.specs.Rows.{flow_of, across_of}
use Rattle.netlist.specs.Sound.{names}
use Rattle.std.specs.List.{list_all}
use Rattle.equation.specs.Equations.{plus as plus_term, minus as minus_term, term_at, node_sum, row_equation}
use Rattle.network.specs.Flows.{crossing, leaves, only, excess}
use Rattle.network.specs.Laws.{of_order, law_sum}
use Rattle.network.specs.Readings.{Readings}
use Rattle.network.specs.Walks.{read, row_at, tail_of, head_of}
use Rattle.reading_sums.proofs.Adding.{no_term, nth_term}
use Rattle.readings.specs.Readings.{term_reading, equation_sum}
use Rattle.readings.specs.Agreement.{with_earth}

module _ {G : Type 0} (𝓖 : Group G) (p : ℕ → G) where
  earth_node : (u : ℕ) → with_earth 𝓖 p (u + 1) ≡ p u
  earth_node u = ap (with_earth 𝓖 p) (add-one u)

module _ {G : Type 0} (𝓖 : Group G) (n : ℕ) (r : Readings G) (p : ℕ → G) where
  abbrev sum : List Term → G
  sum ts = equation_sum 𝓖 n r p ts

  reads_variable : (t : Term) → t.variable < n → term_reading 𝓖 n r p t ≡ read 𝓖 (of_order t.order r) t.variable
  reads_variable t l = cond-true _ _ _ (lt-ltb t.variable n l)

  reads_potential : (t : Term) (u : ℕ) → t.variable ≡ n + u → term_reading 𝓖 n r p t ≡ p u
  reads_potential t u e =
      let past : n ≤ t.variable = omega arith in
      let at : t.variable - n ≡ u = omega arith in
      cond-false _ _ _ (le-ltb t.variable n past) ∙ ap p at

  pub law_comes : (ts : List Term) → list_all (names n) ts ≡ true → sum ts ≡ law_sum 𝓖 ts r
  law_comes [] h = refl
  law_comes (t ∷ ts) h =
      let both = and_parts (names n t) (list_all (names n) ts) h in
      ap₂ 𝓖.sum (ap (𝓖.multiple t.coefficient) (cond-true (ltb t.variable n) _ _ both.0)) (law_comes ts both.1)

  sum_append : (xs ys : List Term) → sum (xs ++ ys) ≡ 𝓖.sum (sum xs) (sum ys)
  sum_append [] ys = sym (𝓖.neutral _)
  sum_append (t ∷ xs) ys = ap (𝓖.sum _) (sum_append xs ys) ∙ sym (𝓖.associative _ _ _)

  -- the loop's sum after term i, which has the coefficient k and the reading x, and adds y
  pub sum_more : (ts : List Term) (i : ℕ) (s : G) (k : ℤ) (x y s' : G) → i < length ts → s ≡ sum (take i ts) → k ≡ (nth_term ts i).coefficient → x ≡ term_reading 𝓖 n r p (nth_term ts i) → y ≡ 𝓖.multiple k x → s' ≡ 𝓖.sum s y → s' ≡ sum (take (i + 1) ts)
  sum_more ts i s k x y s' h so coefficient reading is next =
      next ∙ ap₂ 𝓖.sum so (is ∙ ap₂ 𝓖.multiple coefficient reading ∙ sym (right 𝓖 _))
      ∙ sym (ap sum (take_more ts i no_term h) ∙ sum_append (take i ts) (nth_term ts i ∷ []))

  one_plus : (u : ℕ) → u < n → sum (plus_term u ∷ []) ≡ read 𝓖 r.values u
  one_plus u l = right 𝓖 _ ∙ multiple_one 𝓖 _ ∙ reads_variable (plus_term u) l

  one_minus : (u : ℕ) → u < n → sum (minus_term u ∷ []) ≡ 𝓖.negation (read 𝓖 r.values u)
  one_minus u l = right 𝓖 _ ∙ multiple_minus_one 𝓖 _ ∙ ap 𝓖.negation (reads_variable (minus_term u) l)

  -- a branch at a node: s says that its ends are one, a that it starts there, c that it ends there
  branch_at : (u : ℕ) → u < n → (s a c : Bool) → (s ≡ true → a ≡ c) → (s ≡ false → a ≡ true → c ≡ true → ⊥) → sum (option_to_list (cond s None (cond a (Some (plus_term u)) (cond c (Some (minus_term u)) None)))) ≡ crossing 𝓖 a c (read 𝓖 r.values u)
  branch_at u l true true true same apart = refl
  branch_at u l true true false same apart = absurd (false≢true (sym (same refl)))
  branch_at u l true false true same apart = absurd (false≢true (same refl))
  branch_at u l true false false same apart = refl
  branch_at u l false true true same apart = absurd (apart refl refl refl)
  branch_at u l false true false same apart = one_plus u l
  branch_at u l false false true same apart = one_minus u l
  branch_at u l false false false same apart = refl

  earth_at : (u : ℕ) → u < n → (a : Bool) → sum (option_to_list (cond a (Some (plus_term u)) None)) ≡ cond a (read 𝓖 r.values u) 𝓖.zero
  earth_at u l true = one_plus u l
  earth_at u l false = refl

  row_at_node : (v : ℕ) (row : Row ℕ) → flow_of row < n → sum (option_to_list (term_at v row)) ≡ leaves 𝓖 (only v) row (read 𝓖 r.values (flow_of row))
  row_at_node v (Branch flow across first second) l =
      branch_at flow l (eqb first second) (eqb first v) (eqb second v)
      (λ s. ap (λ k. eqb k v) (eqb-true first second s))
      (λ s starts ends. eqb-false first second s (eqb-true first v starts ∙ sym (eqb-true second v ends)))
  row_at_node v (Earth flow across node) l = earth_at flow l (eqb node v)

  pub node_comes : (rows : List (Row ℕ)) (v : ℕ) → ((j : ℕ) → j < length rows → flow_of (row_at rows j) < n) → sum (node_sum rows v) ≡ excess 𝓖 rows r.values v
  node_comes [] v h = refl
  node_comes (row ∷ rows) v h =
      sum_append (option_to_list (term_at v row)) (node_sum rows v)
      ∙ ap₂ 𝓖.sum (row_at_node v row (h 0 (omega arith))) (node_comes rows v (λ j l. h (suc j) (omega arith)))

  pub row_comes : (row : Row ℕ) → across_of row < n → sum (row_equation n row) ≡ minus 𝓖 (read 𝓖 r.values (across_of row)) (minus 𝓖 (with_earth 𝓖 p (tail_of row)) (with_earth 𝓖 p (head_of row)))
  row_comes (Branch flow across first second) l =
      ap₂ 𝓖.sum (multiple_one 𝓖 _ ∙ reads_variable (plus_term across) l)
      (ap₂ 𝓖.sum (multiple_minus_one 𝓖 _ ∙ ap 𝓖.negation (reads_potential (minus_term (n + first)) first refl)) (right 𝓖 _ ∙ multiple_one 𝓖 _ ∙ reads_potential (plus_term (n + second)) second refl)
      ∙ 𝓖.commutative _ _ ∙ sym (negation_minus 𝓖 (p first) (p second))
      ∙ ap₂ (λ x y. 𝓖.negation (minus 𝓖 x y)) (sym (earth_node 𝓖 p first)) (sym (earth_node 𝓖 p second)))
  row_comes (Earth flow across node) l =
      ap₂ 𝓖.sum (multiple_one 𝓖 _ ∙ reads_variable (plus_term across) l)
      (right 𝓖 _ ∙ multiple_minus_one 𝓖 _ ∙ ap 𝓖.negation (reads_potential (minus_term (n + node)) node refl ∙ sym (earth_node 𝓖 p node) ∙ sym (minus_zero 𝓖 _)))
