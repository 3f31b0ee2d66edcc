-- Each reply of copies in series, from the part's replies.
use Rattle.std.proofs.Common.{◌≡◌, ℕ, zero, suc, ◌+◌, ◌-◌, ◌*◌, ◌<◌, ◌≤◌, Bool, true, false, ◌&&◌, List, ◌++◌, map, length, Some, None, Option, sym, refl, ap, ◌∙◌, drop, subst, mul-le-mul_right, arith}
use Rattle.std.specs.List.{range_with_len, flat_map, slice_get, list_all}
use Rattle.std.specs.Option.{option_map}
use Rattle.std.proofs.lemmas.List.{length-append, length-map}
use Rattle.std.proofs.lemmas.Option.{slice_get_past}
use Rattle.std.proofs.lemmas.Bool.{and_right, and_parts, both_ways}
use Rattle.netlist.specs.Sound.{is_term_count}
use Rattle.assembly.specs.Plans.{PlanRow, PlanTerm}
use Rattle.assembly.specs.declared.plans.Size.{Size}
use Rattle.assembly.specs.Meaning.{Meaning, void, plan, Plan, Bounded, Proper, size_in, size_of, domains_of, rows_of, laws_of, terms_of, is_small}
use Rattle.assembly.proofs.Nth.{nth_append_left, nth_append_right}
use Rattle.layers.specs.declared.renumbering.Renumbering.{Renumbering}
use Rattle.layers.specs.Layer.{second_end}
use Rattle.layers.specs.Renumbered.{moved_row, moved_term, moved_rows, moved_laws}
use Rattle.layers.proofs.Halving.{size_where}
use Rattle.layers.proofs.Ends.{by_ends}
use Rattle.layers.proofs.Laws.{mapped_length, moved_terms, no_terms, kept_lengths, joined_lengths}
use Rattle.layers.proofs.Small.{size_with, small_bounds, small_from, bounded}
use Rattle.repeat.specs.declared.copies.Copies.{Copies}
use Rattle.repeat.specs.declared.copies.Spot.{Spot}
use Rattle.repeat.specs.Repeat.{in_turn, copy_place, in_copies, is_count, meet, repeated, times_size, SmallCopies, Copied, IsSpot, ToldCopies}
use Rattle.repeat.proofs.Turns.{length_turns, nth_spot, nth_copy, nth_no_copy, turn_le}

-- A part has one second end.
one_second : (a : Plan) → Bounded a → length (second_end a) ≡ 1
one_second a p = by_ends (λ xs. length (drop 1 xs) ≡ 1) (λ x y. refl) a.ends p.two_ends

length_inner : (n : ℕ) (a : Plan) → Bounded a → length (in_copies n a).inner ≡ n * length a.inner + (n - 1)
length_inner n a p =
    length-append (in_turn n (λ i. a.inner)) (in_turn (n - 1) (λ i. second_end a))
    ∙ omega (arith, length_turns (λ i. a.inner) (length a.inner) (λ i. refl) n, length_turns (λ i. second_end a) 1 (λ i. one_second a p) (n - 1))

-- What the code counts is what the layer has.
pub size_in_copies : (n : ℕ) (a : Plan) → Bounded a → size_in (in_copies n a) ≡ times_size n (size_in a)
size_in_copies n a p =
    let w = in_copies n a in
    let place = copy_place (size_in a) n in
    let rows : length w.rows ≡ n * length a.rows =
    length_turns (λ i. moved_rows (place i) a) (length a.rows) (λ i. length-map a.rows (moved_row (place i))) n in
    let laws : length w.laws ≡ n * length a.laws =
    length_turns (λ i. moved_laws (place i) a) (length a.laws) (λ i. length-map a.laws (map (moved_term (place i)))) n in
    (λ i. size_with (p.two_ends i) (length_inner n a p i) (n * a.variables) (rows i) (laws i))

-- A part that has too much makes a layer that has too much.
pub not_small_times : (n : ℕ) (a : Size) → is_small a ≡ false → (is_count n && is_small (times_size n a)) ≡ false
not_small_times zero a f = refl
not_small_times (suc k) a f = go (is_small (times_size (suc k) a)) refl
  where
    go : (t : Bool) → is_small (times_size (suc k) a) ≡ t → (is_count (suc k) && is_small (times_size (suc k) a)) ≡ false
    go true e =
        let l : 1 ≤ suc k = omega arith in
        let b = small_bounds (times_size (suc k) a) e in
        let small : is_small a ≡ true = small_from a (record {
          nodes = omega (arith, b.nodes, mul-le-mul_right a.inner l);
          variables = omega (arith, b.variables, mul-le-mul_right a.variables l);
          rows = omega (arith, b.rows, mul-le-mul_right a.rows l);
          laws = omega (arith, b.laws, mul-le-mul_right a.laws l);
        }) in
        absurd (both_ways (is_small a) f small)
    go false e = and_right (is_count (suc k)) _ e

-- Where the ends meet, the code's counts decide.
judged : (n : ℕ) (a : Plan) → Bounded a → meet (plan a) ≡ true → (r : Option Copies) → SmallCopies n (size_in a) r → ToldCopies n (plan a) r
judged n a p e None large =
    let counts : (is_count n && is_small (size_in (in_copies n a))) ≡ false = ap (λ z. is_count n && is_small z) (size_in_copies n a p) ∙ large in
    rw (e, counts) refl
judged n a p e (Some c) are =
    let counted = size_in_copies n a p in
    let small : is_small (size_in (in_copies n a)) ≡ true = ap is_small (counted ∙ sym are.whole_is) ∙ are.small in
    record {
      part_has = ap Some are.part_is;
      times_has = are.times_is;
      whole_has = rw (e, are.count, small) (ap Some (are.whole_is ∙ sym counted));
      part_bounds = p;
    }

pub copied : (n : ℕ) (m : Meaning) {x : Size} (r : Option Copies) → Some x ≡ size_of m → Proper m → meet m ≡ true → SmallCopies n x r → ToldCopies n m r
copied n void r ex p e are = absurd (cc)
copied n (plan a) {x} r ex p e are =
    let x_is : x ≡ size_in a = cc in
    judged n a p e r (subst (λ u. SmallCopies n u r) x_is are)

-- What a layer knows, once it has the sizes.
pub known : (n : ℕ) (m : Meaning) {r : Option Copies} (c : Copies) → ToldCopies n m r → r ≡ Some c → Copied n m c
known n m c t e = subst (ToldCopies n m) e t

-- What holds of a plan and its copies holds of the part and the layer.
pub by_copies : (n : ℕ) (P : Meaning → Meaning → Size → ℕ → Size → Type 0) → ((a : Plan) → Bounded a → is_small (size_in (in_copies n a)) ≡ true → P (plan a) (plan (in_copies n a)) (size_in a) n (size_in (in_copies n a))) → {m : Meaning} {c : Copies} → Copied n m c → P m (repeated n m) c.part c.times c.whole
by_copies n P f {m = void} t = absurd (let e = t.part_has in cc)
by_copies n P f {m = plan a} {c} t =
    let part : c.part ≡ size_in a = let e = t.part_has in cc in
    let is = size_where ((meet (plan a) && is_count n) && is_small (size_in (in_copies n a))) (in_copies n a) t.whole_has in
    rw (is.0, part, t.times_has, is.1) (f a t.part_bounds (and_parts _ _ is.0).1)

-- The laws of all copies are as long as the part's.
all_lengths : (n : ℕ) (a : Plan) → Bounded a → (s k : ℕ) → list_all is_term_count (map length (flat_map (λ i. moved_laws (copy_place (size_in a) n i) a) (range_with_len s k))) ≡ true
all_lengths n a p s zero = refl
all_lengths n a p s (suc k) =
    joined_lengths (moved_laws (copy_place (size_in a) n s) a) (flat_map (λ i. moved_laws (copy_place (size_in a) n i) a) (range_with_len (s + 1) k))
    (kept_lengths (copy_place (size_in a) n s) a p) (all_lengths n a p (s + 1) k)

module _ (n : ℕ) {m : Meaning} {c : Copies} (is : Copied n m c) where
  pub copies_proper : Proper (repeated n m)
  copies_proper =
      by_copies n (λ m w x t z. Proper w) (λ a p s. bounded (in_copies n a) p.two_ends s (all_lengths n a p 0 n)) is

module _ (n : ℕ) {m : Meaning} {c : Copies} (is : Copied n m c) (k : ℕ) where
  pub row_copied : {p : Renumbering} {x r : Option PlanRow} (s : Spot) → IsSpot c.part.rows c.times k s → p ≡ copy_place c.part c.times s.copy → x ≡ slice_get (rows_of m) s.place → r ≡ option_map (moved_row p) x → r ≡ slice_get (rows_of (repeated n m)) k
  row_copied s at ep ex er =
      let e =
      by_copies n (λ m w x t z. IsSpot x.rows t k s → slice_get (rows_of w) k ≡ option_map (moved_row (copy_place x t s.copy)) (slice_get (rows_of m) s.place))
      (λ a p q. nth_copy (λ i. moved_row (copy_place (size_in a) n i)) a.rows n k s) is at in
      cc

  pub row_past : c.times * c.part.rows ≤ k → None ≡ slice_get (rows_of (repeated n m)) k
  row_past =
      by_copies n (λ m w x t z. t * x.rows ≤ k → None ≡ slice_get (rows_of w) k)
      (λ a p q. nth_no_copy (λ i. moved_row (copy_place (size_in a) n i)) a.rows n k) is

  law_copied : (s : Spot) → IsSpot c.part.laws c.times k s → slice_get (laws_of (repeated n m)) k ≡ option_map (map (moved_term (copy_place c.part c.times s.copy))) (slice_get (laws_of m) s.place)
  law_copied s =
      by_copies n (λ m w x t z. IsSpot x.laws t k s → slice_get (laws_of w) k ≡ option_map (map (moved_term (copy_place x t s.copy))) (slice_get (laws_of m) s.place))
      (λ a p q. nth_copy (λ i. map (moved_term (copy_place (size_in a) n i))) a.laws n k s) is

  law_past : c.times * c.part.laws ≤ k → None ≡ slice_get (laws_of (repeated n m)) k
  law_past =
      by_copies n (λ m w x t z. t * x.laws ≤ k → None ≡ slice_get (laws_of w) k)
      (λ a p q. nth_no_copy (λ i. map (moved_term (copy_place (size_in a) n i))) a.laws n k) is

  pub len_copied : (s : Spot) → IsSpot c.part.laws c.times k s → option_map length (slice_get (laws_of m) s.place) ≡ option_map length (slice_get (laws_of (repeated n m)) k)
  len_copied s at = sym (ap (option_map length) (law_copied s at) ∙ mapped_length _ (slice_get (laws_of m) s.place))

  pub len_past : c.times * c.part.laws ≤ k → None ≡ option_map length (slice_get (laws_of (repeated n m)) k)
  len_past past = ap (option_map length) (law_past past)

  pub term_copied : {p : Renumbering} {x r : Option PlanTerm} (s : Spot) (t : ℕ) → IsSpot c.part.laws c.times k s → p ≡ copy_place c.part c.times s.copy → x ≡ slice_get (terms_of m s.place) t → r ≡ option_map (moved_term p) x → r ≡ slice_get (terms_of (repeated n m) k) t
  term_copied s t at ep ex er = let e = moved_terms _ (laws_of (repeated n m)) k (laws_of m) s.place t (law_copied s at) in cc

  pub term_past : (t : ℕ) → c.times * c.part.laws ≤ k → None ≡ slice_get (terms_of (repeated n m) k) t
  term_past t past = no_terms (laws_of (repeated n m)) k t (law_past past)

nth_inner : {X : Type 0} (ends inner : List X) (i : ℕ) → length ends ≡ 2 → 2 ≤ i → slice_get (ends ++ inner) i ≡ slice_get inner (i - 2)
nth_inner ends inner i e l = nth_append_right ends inner i (omega arith) ∙ ap (λ n. slice_get inner (i - n)) e

-- The domain of a node of the layer.
module _ (n : ℕ) (a : Plan) (p : Bounded a) (i : ℕ) (l : 2 ≤ i) where
  inner_at : slice_get (a.ends ++ (in_copies n a).inner) i ≡ slice_get (in_copies n a).inner (i - 2)
  inner_at = nth_inner a.ends (in_copies n a).inner i p.two_ends l

  inner_copied : (s : Spot) → IsSpot (length a.inner) n (i - 2) s → slice_get (a.ends ++ a.inner) (2 + s.place) ≡ slice_get (a.ends ++ (in_copies n a).inner) i
  inner_copied s at =
      let len = length a.inner in
      let within : i - 2 < length (in_turn n (λ i. a.inner)) =
      omega (arith, length_turns (λ i. a.inner) len (λ i. refl) n, turn_le s.copy n len at.copied, at.inside, at.is) in
      nth_inner a.ends a.inner (2 + s.place) p.two_ends (omega arith) ∙ ap (slice_get a.inner) (omega arith)
      ∙ sym (inner_at ∙ nth_append_left (in_turn n (λ i. a.inner)) (in_turn (n - 1) (λ i. second_end a)) (i - 2) within ∙ nth_spot (λ i. a.inner) len (λ i. refl) n (i - 2) s at)

  inner_joint : n * length a.inner ≤ i - 2 → i - 2 < length (in_copies n a).inner → slice_get (a.ends ++ a.inner) 1 ≡ slice_get (a.ends ++ (in_copies n a).inner) i
  inner_joint past within =
      let all = length_turns (λ i. a.inner) (length a.inner) (λ i. refl) n in
      let j = i - 2 - length (in_turn n (λ i. a.inner)) in
      let s : Spot = record { copy = j; place = 0; numbers = copy_place (size_in a) n 0 } in
      let at : IsSpot 1 (n - 1) j s =
      record { copied = omega (arith, all, length_inner n a p); inside = omega arith; is = omega arith } in
      by_ends (λ xs. slice_get (xs ++ a.inner) 1 ≡ slice_get (drop 1 xs) 0) (λ x y. refl) a.ends p.two_ends
      ∙ sym (inner_at ∙ nth_append_right (in_turn n (λ i. a.inner)) (in_turn (n - 1) (λ i. second_end a)) (i - 2) (omega (arith, all)) ∙ nth_spot (λ i. second_end a) 1 (λ i. one_second a p) (n - 1) j s at)

  inner_past : length (in_copies n a).inner ≤ i - 2 → None ≡ slice_get (a.ends ++ (in_copies n a).inner) i
  inner_past u = sym (inner_at ∙ slice_get_past (in_copies n a).inner (i - 2) u)

-- The ends are those of every copy.
ends_alike : {X : Type 0} (xs ys : List X) (i : ℕ) → i < 2 → (ends : List X) → length ends ≡ 2 → slice_get (ends ++ xs) i ≡ slice_get (ends ++ ys) i
ends_alike xs ys i l ends two = nth_append_left ends xs i (omega arith) ∙ sym (nth_append_left ends ys i (omega arith))

module _ (n : ℕ) {m : Meaning} {c : Copies} (is : Copied n m c) (i : ℕ) where
  pub domain_end : i < 2 → slice_get (domains_of m) i ≡ slice_get (domains_of (repeated n m)) i
  domain_end l =
      by_copies n (λ m w x t z. slice_get (domains_of m) i ≡ slice_get (domains_of w) i)
      (λ a p q. ends_alike a.inner (in_copies n a).inner i l a.ends p.two_ends) is

  pub domain_copied : 2 ≤ i → (s : Spot) → IsSpot c.part.inner c.times (i - 2) s → slice_get (domains_of m) (2 + s.place) ≡ slice_get (domains_of (repeated n m)) i
  domain_copied h s =
      by_copies n (λ m w x t z. IsSpot x.inner t (i - 2) s → slice_get (domains_of m) (2 + s.place) ≡ slice_get (domains_of w) i)
      (λ a p q. inner_copied n a p i h s) is

  pub domain_joint : 2 ≤ i → c.times * c.part.inner ≤ i - 2 → i - 2 < c.whole.inner → slice_get (domains_of m) 1 ≡ slice_get (domains_of (repeated n m)) i
  domain_joint h =
      by_copies n (λ m w x t z. t * x.inner ≤ i - 2 → i - 2 < z.inner → slice_get (domains_of m) 1 ≡ slice_get (domains_of w) i)
      (λ a p q. inner_joint n a p i h) is

  pub domain_past : 2 ≤ i → c.whole.inner ≤ i - 2 → None ≡ slice_get (domains_of (repeated n m)) i
  domain_past h =
      by_copies n (λ m w x t z. z.inner ≤ i - 2 → None ≡ slice_get (domains_of w) i) (λ a p q. inner_past n a p i h) is
