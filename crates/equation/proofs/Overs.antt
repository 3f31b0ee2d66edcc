-- A buffer that is filled from its start on, one element or one list after another.
use Rattle.std.proofs.Common.{◌≡◌, ℕ, ◌+◌, ◌<◌, ◌≤◌, List, [], ◌∷◌, ◌++◌, length, get_or, drop, take, set, sym, ap, ◌∙◌, arith}
use Rattle.std.proofs.lemmas.List.{set_at, drop_more, append_assoc, drop-drop, length_push, length-append, length-drop}
use Rattle.netlist.specs.Buffers.{written, over}
use Rattle.netlist.proofs.Buffers.{written_written, written_over}

module _ {X : Type 0} where
  -- it keeps its length
  pub length_over : (old new : List X) → length new ≤ length old → length (over old new) ≡ length old
  length_over old new h = omega (arith, length-append new (drop (length new) old), length-drop (length new) old)

  pub over_push : (old new : List X) (x : X) → length new < length old → set (over old new) (length new) x ≡ over old (new ++ x ∷ [])
  over_push old new x h =
      ap (λ back. set (new ++ back) (length new) x) (drop_more old (length new) x h)
      ∙ set_at new (get_or old (length new) x) (drop (length new + 1) old) x (length new) (omega arith)
      ∙ sym (append_assoc new (x ∷ []) (drop (length new + 1) old))
      ∙ ap (λ n. (new ++ x ∷ []) ++ drop n old) (sym (length_push new x))

  pub over_written : (old xs ys : List X) → length xs + length ys ≤ length old → written (over old xs) (length xs) ys ≡ over old (xs ++ ys)
  over_written old xs ys h =
      let from : length xs ≡ 0 + length xs = omega arith in
      (λ i. written (sym (written_over old xs) i) (from i) ys)
      ∙ written_written old xs ys 0 (omega arith)
      ∙ written_over old (xs ++ ys)

  -- the k elements from place a on are new
  pub written_part : (old new : List X) (a k : ℕ) → length new ≡ k → take a old ++ (new ++ drop k (drop a old)) ≡ written old a new
  written_part old new a k h =
      let end : a + k ≡ a + length new = omega (arith, h) in
      sym (append_assoc (take a old) new (drop k (drop a old)))
      ∙ ap (λ back. (take a old ++ new) ++ back) (drop-drop k a old ∙ ap (λ m. drop m old) end)
