-- Sums of lists.
use Rattle.std.proofs.Common.{◌≡◌, ℕ, zero, suc, ◌+◌, ◌<◌, ◌≤◌, List, [], ◌∷◌, ◌++◌, length, get_or, drop, set, sym, refl, ap, ◌∙◌, ⊎_elim, arith, length-set}
use Rattle.std.specs.List.{fold}
use Rattle.std.specs.List.Sorted.{IsPermutation}
use Rattle.std.proofs.lemmas.List.Edits.{swap_is}
use Rattle.std.proofs.lemmas.List.{drop_all, drop_more, get_or-set_same, get_or-set_other}
use Rattle.std.proofs.lemmas.List.Sorted.{IsPermutation-keeps}
use Rattle.std.proofs.lemmas.Bool.{cases_eq}
use Rattle.quantity.specs.Group.{Group}
use Rattle.quantity.specs.Totals.{total, Totals}
use Rattle.quantity.proofs.Groups.{right, same_from_sum', negation_sum}
use Rattle.quantity.proofs.Mapping.{map_total}
use Rattle.quantity.proofs.Multiplying.{multiple_sum}

module _ {K : Type 0} (𝓖 : Group K) where
  pub total_split : (xs ys : List K) → total 𝓖 (xs ++ ys) ≡ 𝓖.sum (total 𝓖 xs) (total 𝓖 ys)
  total_split [] ys = sym (𝓖.neutral (total 𝓖 ys))
  total_split (x ∷ xs) ys = ap (𝓖.sum x) (total_split xs ys) ∙ sym (𝓖.associative x (total 𝓖 xs) (total 𝓖 ys))

  -- a term in the place of another
  pub total_set : (xs : List K) (i : ℕ) (y d : K) → i < length xs → 𝓖.sum (total 𝓖 (set xs i y)) (get_or xs i d) ≡ 𝓖.sum (total 𝓖 xs) y
  total_set [] i y d within = absurd (omega arith)
  total_set (x ∷ xs) zero y d within = 𝓖.commutative (𝓖.sum y (total 𝓖 xs)) x ∙ ap (𝓖.sum x) (𝓖.commutative y (total 𝓖 xs)) ∙ sym (𝓖.associative x (total 𝓖 xs) y)
  total_set (x ∷ xs) (suc i) y d within = 𝓖.associative x _ _ ∙ ap (𝓖.sum x) (total_set xs i y d (omega arith)) ∙ sym (𝓖.associative x _ _)

  -- two terms exchanged
  total_exchanged : (l : List K) (i j : ℕ) → i < length l → j < length l → total 𝓖 (set (set l i (get_or l j 𝓖.zero)) j (get_or l i 𝓖.zero)) ≡ total 𝓖 l
  total_exchanged l i j p q =
      let x : K = get_or l i 𝓖.zero in
      let y : K = get_or l j 𝓖.zero in
      let w : List K = set l i y in
      let long = length-set l i y in
      let there : get_or w j 𝓖.zero ≡ y = ⊎_elim (λ e. ap (λ n. get_or w n 𝓖.zero) e ∙ get_or-set_same l i y 𝓖.zero p) (λ n. get_or-set_other l i j y 𝓖.zero n) (cases_eq j i) in
      same_from_sum' 𝓖 (total 𝓖 (set w j x)) (total 𝓖 l) y
      (ap (𝓖.sum (total 𝓖 (set w j x))) (sym there) ∙ total_set w j x 𝓖.zero (omega arith) ∙ total_set l i y 𝓖.zero p)

  pub total_reordered : (xs ys : List K) → IsPermutation xs ys → total 𝓖 ys ≡ total 𝓖 xs
  total_reordered xs ys =
      IsPermutation-keeps xs (λ l. total 𝓖 l ≡ total 𝓖 xs) refl
      (λ l i j p q e. ap (total 𝓖) (sym (swap_is l i j 𝓖.zero p q)) ∙ total_exchanged l i j p q ∙ e) ys

  pub totals : Totals 𝓖
  totals = record {
    split = total_split;
    reordered = total_reordered;
    negated = λ xs. sym (map_total 𝓖 𝓖 𝓖.negation (negation_sum 𝓖) xs);
    multiplied = λ c xs. sym (map_total 𝓖 𝓖 (𝓖.multiple c) (multiple_sum 𝓖 c) xs);
  }

  -- a running sum s, at the first term, at the next, and at the last
  pub total_start : (s whole : K) → s ≡ 𝓖.zero → whole ≡ 𝓖.sum s whole
  total_start s whole e = sym (ap (λ y. 𝓖.sum y whole) e ∙ 𝓖.neutral whole)

  pub total_next : (xs : List K) (i : ℕ) (whole s s' x : K) → i < length xs → x ≡ get_or xs i x → s' ≡ 𝓖.sum s x → whole ≡ 𝓖.sum s (total 𝓖 (drop i xs)) → whole ≡ 𝓖.sum s' (total 𝓖 (drop (i + 1) xs))
  total_next xs i whole s s' x within is more e =
      e ∙ ap (λ l. 𝓖.sum s (total 𝓖 l)) (drop_more xs i x within) ∙ sym (𝓖.associative s (get_or xs i x) _)
      ∙ ap (λ y. 𝓖.sum y (total 𝓖 (drop (i + 1) xs))) (ap (𝓖.sum s) (sym is) ∙ sym more)

  pub total_end : (xs : List K) (i : ℕ) (whole s : K) → length xs ≤ i → whole ≡ 𝓖.sum s (total 𝓖 (drop i xs)) → s ≡ whole
  total_end xs i whole s past e = sym (e ∙ ap (λ l. 𝓖.sum s (total 𝓖 l)) (drop_all i xs past) ∙ right 𝓖 s)

  -- added up from the front, on top of s
  pub total_folded : (s : K) (xs : List K) → fold 𝓖.sum s xs ≡ 𝓖.sum s (total 𝓖 xs)
  total_folded s [] = sym (right 𝓖 s)
  total_folded s (x ∷ xs) = total_folded (𝓖.sum s x) xs ∙ 𝓖.associative s x (total 𝓖 xs)
