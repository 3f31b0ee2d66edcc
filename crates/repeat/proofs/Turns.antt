-- Lists of one length, one after the other.
use Rattle.std.proofs.Common.{◌≡◌, ℕ, zero, suc, ◌+◌, ◌-◌, ◌*◌, ◌<◌, ◌≤◌, List, ◌++◌, map, length, None, sym, ap, ◌∙◌, mul-le-mul_right, suc-mul, arith}
use Rattle.std.specs.List.{range_with_len, flat_map, slice_get}
use Rattle.std.specs.Option.{option_map}
use Rattle.std.proofs.lemmas.List.{length-append, length-map}
use Rattle.std.proofs.lemmas.Option.{slice_get_past, slice_get-map}
use Rattle.assembly.proofs.Nth.{nth_append_left, nth_append_right}
use Rattle.repeat.specs.declared.copies.Spot.{Spot}
use Rattle.repeat.specs.Repeat.{in_turn, IsSpot}

module _ {X : Type 0} (f : ℕ → List X) (len : ℕ) (even : (i : ℕ) → length (f i) ≡ len) where
  length_from : (s n : ℕ) → length (flat_map f (range_with_len s n)) ≡ n * len
  length_from s zero = omega arith
  length_from s (suc n) =
      length-append (f s) (flat_map f (range_with_len (s + 1) n)) ∙ omega (arith, even s, length_from (s + 1) n, suc-mul n len)

  pub length_turns : (n : ℕ) → length (in_turn n f) ≡ n * len
  length_turns n = length_from 0 n

  nth_from : (s n i j : ℕ) → i < n → j < len → slice_get (flat_map f (range_with_len s n)) (i * len + j) ≡ slice_get (f (s + i)) j
  nth_from s zero i j l w = absurd (omega arith)
  nth_from s (suc n) zero j l w =
      let rest = flat_map f (range_with_len (s + 1) n) in
      let at : 0 * len + j ≡ j = omega arith in
      let within : j < length (f s) = omega (arith, even s) in
      let same : s ≡ s + 0 = omega arith in
      ap (slice_get (f s ++ rest)) at ∙ nth_append_left (f s) rest j within ∙ ap (λ i. slice_get (f i) j) same
  nth_from s (suc n) (suc i) j l w =
      let rest = flat_map f (range_with_len (s + 1) n) in
      let past : length (f s) ≤ suc i * len + j = omega (arith, even s, suc-mul i len) in
      let at : suc i * len + j - length (f s) ≡ i * len + j = omega (arith, even s, suc-mul i len) in
      let same : s + 1 + i ≡ s + suc i = omega arith in
      nth_append_right (f s) rest (suc i * len + j) past ∙ ap (slice_get rest) at ∙ nth_from (s + 1) n i j (omega arith) w ∙ ap (λ i. slice_get (f i) j) same

  pub nth_spot : (n k : ℕ) (s : Spot) → IsSpot len n k s → slice_get (in_turn n f) k ≡ slice_get (f s.copy) s.place
  nth_spot n k s at =
      let same : 0 + s.copy ≡ s.copy = omega arith in
      ap (slice_get (in_turn n f)) (sym at.is) ∙ nth_from 0 n s.copy s.place at.copied at.inside ∙ ap (λ i. slice_get (f i) s.place) same

-- Copies of one list, each moved by a function of its own.
module _ {X Y : Type 0} (F : ℕ → X → Y) (xs : List X) (n k : ℕ) where
  pub nth_copy : (s : Spot) → IsSpot (length xs) n k s → slice_get (in_turn n (λ i. map (F i) xs)) k ≡ option_map (F s.copy) (slice_get xs s.place)
  nth_copy s at = nth_spot (λ i. map (F i) xs) (length xs) (λ i. length-map xs (F i)) n k s at ∙ slice_get-map (F s.copy) xs s.place

  pub nth_no_copy : n * length xs ≤ k → None ≡ slice_get (in_turn n (λ i. map (F i) xs)) k
  nth_no_copy past =
      let all : length (in_turn n (λ i. map (F i) xs)) ≤ k = omega (arith, length_turns (λ i. map (F i) xs) (length xs) (λ i. length-map xs (F i)) n) in
      sym (slice_get_past _ k all)

pub turn_le : (i n x : ℕ) → i < n → i * x + x ≤ n * x
turn_le i n x l = omega (arith, suc-mul i x, mul-le-mul_right x l)
