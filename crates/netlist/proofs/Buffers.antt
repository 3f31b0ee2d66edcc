-- Writing over a list, piece after piece.
use Rattle.std.proofs.Common.{◌≡◌, ℕ, ◌+◌, ◌≤◌, List, [], ◌++◌, length, take, drop, sym, ap, ◌∙◌, arith}
use Rattle.std.proofs.lemmas.List.{append-nil, append_assoc, length-append, length-take-le, take-append-drop, drop-drop, take_at, drop_at}
use Rattle.netlist.specs.Buffers.{written, over}

module _ {X : Type 0} where
  front_length : (old new : List X) (a : ℕ) → a ≤ length old → length (take a old ++ new) ≡ a + length new
  front_length old new a h = length-append (take a old) new ∙ ap (λ (n : ℕ). n + length new) (length-take-le a old h)

  pub written_none : (old : List X) (a : ℕ) → written old a [] ≡ old
  written_none old a = (λ i. append-nil (take a old) i ++ drop (zero_right i) old) ∙ take-append-drop a old
    where
      zero_right : a + 0 ≡ a
      zero_right = omega arith

  -- a second piece behind the first
  pub written_written : (old xs ys : List X) (a : ℕ) → a + length xs + length ys ≤ length old → written (written old a xs) (a + length xs) ys ≡ written old a (xs ++ ys)
  written_written old xs ys a h =
      let n = a + length xs in
      let front = front_length old xs a (omega arith) in
      let end : n + length ys ≡ a + length (xs ++ ys) = omega (arith, length-append xs ys) in
      let head = take_at (take a old ++ xs) (drop n old) n front in
      let tail : drop (n + length ys) ((take a old ++ xs) ++ drop n old) ≡ drop (n + length ys) old =
      sym (drop-drop (length ys) n ((take a old ++ xs) ++ drop n old)) ∙ ap (drop (length ys)) (drop_at (take a old ++ xs) (drop n old) n front) ∙ drop-drop (length ys) n old in
      (λ i. (head i ++ ys) ++ tail i)
      ∙ (λ i. append_assoc (take a old) xs ys i ++ drop (end i) old)

  -- from the start on
  pub written_over : (old new : List X) → written old 0 new ≡ over old new
  written_over old new = let n : 0 + length new ≡ length new = omega arith in ap (λ (k : ℕ). new ++ drop k old) n
