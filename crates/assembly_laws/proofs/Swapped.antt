-- What becomes of each number, and that a second swap undoes the first.
use Rattle.std.proofs.Common.{◌≡◌, ℕ, ◌+◌, ◌-◌, ◌<◌, ◌≤◌, List, ◌++◌, length, sym, ap, ◌∙◌, ⊎_elim, arith}
use Rattle.std.specs.List.{slice_get}
use Rattle.std.proofs.lemmas.Bool.{cases_lt, cond-true, cond-false, or_left, or_right, or_from, lt-ltb, le-ltb, le-leb, lt-leb}
use Rattle.assembly.proofs.Nth.{nth_append_left, nth_append_right}
use Rattle.assembly_laws.specs.Swapped.{swapped}

module _ (from m n : ℕ) where
  pub swapped_low : (k : ℕ) → k < from → swapped from m n k ≡ k
  swapped_low k l = cond-true _ _ _ (or_left _ _ (lt-ltb k from l))

  pub swapped_high : (k : ℕ) → from + m + n ≤ k → swapped from m n k ≡ k
  swapped_high k l = cond-true _ _ _ (or_right _ _ (le-leb (from + m + n) k l))

  pub swapped_first : (k : ℕ) → from ≤ k → k < from + m → swapped from m n k ≡ k + n
  swapped_first k l h =
      cond-false _ _ _ (or_from _ _ (le-ltb k from l) (lt-leb (from + m + n) k (omega arith))) ∙ cond-true _ _ _ (lt-ltb k (from + m) h)

  pub swapped_next : (k : ℕ) → from + m ≤ k → k < from + m + n → swapped from m n k ≡ k - m
  swapped_next k l h =
      cond-false _ _ _ (or_from _ _ (le-ltb k from (omega arith)) (lt-leb (from + m + n) k h)) ∙ cond-false _ _ _ (le-ltb k (from + m) l)

  -- a number is below, above, among the first or among the next
  pub by_place : (P : Type 0) (k : ℕ) → (k < from → P) → (from + m + n ≤ k → P) → (from ≤ k → k < from + m → P) → (from + m ≤ k → k < from + m + n → P) → P
  by_place P k low high first next =
      ⊎_elim low (λ a. ⊎_elim (first a) (λ c. ⊎_elim (next c) high (cases_lt k (from + m + n))) (cases_lt k (from + m))) (cases_lt k from)

pub swapped_back : (from m n k : ℕ) → swapped from n m (swapped from m n k) ≡ k
swapped_back from m n k =
    by_place from m n (swapped from n m (swapped from m n k) ≡ k) k
    (λ l. ap (swapped from n m) (swapped_low from m n k l) ∙ swapped_low from n m k l)
    (λ l. ap (swapped from n m) (swapped_high from m n k l) ∙ swapped_high from n m k (omega arith))
    (λ l h. ap (swapped from n m) (swapped_first from m n k l h) ∙ swapped_next from n m (k + n) (omega arith) (omega arith) ∙ omega arith)
    (λ l h. ap (swapped from n m) (swapped_next from m n k l h) ∙ swapped_first from n m (k - m) (omega arith) (omega arith) ∙ omega arith)

-- What stands where, if two lists in a row change places.
pub swapped_get : {X : Type 0} (ds is ks rest : List X) (n : ℕ) → slice_get (ds ++ (ks ++ (is ++ rest))) (swapped (length ds) (length is) (length ks) n) ≡ slice_get (ds ++ (is ++ (ks ++ rest))) n
swapped_get {X} ds is ks rest n =
    let d = length ds in
    let i = length is in
    let k = length ks in
    let here = slice_get (ds ++ (ks ++ (is ++ rest))) in
    by_place d i k (here (swapped d i k n) ≡ slice_get (ds ++ (is ++ (ks ++ rest))) n) n
    (λ l. ap here (swapped_low d i k n l) ∙ nth_append_left ds _ n l ∙ sym (nth_append_left ds _ n l))
    (λ l.
    let same : n - d - k - i ≡ n - d - i - k = omega arith in
    ap here (swapped_high d i k n l)
    ∙ nth_append_right ds _ n (omega arith) ∙ nth_append_right ks _ (n - d) (omega arith) ∙ nth_append_right is rest (n - d - k) (omega arith) ∙ ap (slice_get rest) same
    ∙ sym (nth_append_right ds _ n (omega arith) ∙ nth_append_right is _ (n - d) (omega arith) ∙ nth_append_right ks rest (n - d - i) (omega arith)))
    (λ l h.
    let same : n + k - d - k ≡ n - d = omega arith in
    ap here (swapped_first d i k n l h)
    ∙ nth_append_right ds _ (n + k) (omega arith) ∙ nth_append_right ks _ (n + k - d) (omega arith) ∙ ap (slice_get (is ++ rest)) same ∙ nth_append_left is rest (n - d) (omega arith)
    ∙ sym (nth_append_right ds _ n l ∙ nth_append_left is _ (n - d) (omega arith)))
    (λ l h.
    let same : n - i - d ≡ n - d - i = omega arith in
    ap here (swapped_next d i k n l h)
    ∙ nth_append_right ds _ (n - i) (omega arith) ∙ ap (slice_get (ks ++ (is ++ rest))) same ∙ nth_append_left ks _ (n - d - i) (omega arith)
    ∙ sym (nth_append_right ds _ n (omega arith) ∙ nth_append_right is _ (n - d) (omega arith) ∙ nth_append_left ks rest (n - d - i) (omega arith)))
