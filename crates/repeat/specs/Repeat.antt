-- What copies of a part in series mean.
use Rattle.std.specs.Prelude.{◌≡◌, ℕ, ◌+◌, ◌-◌, ◌*◌, ◌<◌, Bool, true, false, ◌&&◌, List, [], ◌∷◌, ◌++◌}
use Rattle.std.specs.Prelude.{Some, Option, MatchOption, nat_le, slice_index_or}
use Rattle.std.specs.List.{range_with_len, flat_map}
use Rattle.assembly.specs.declared.plans.Size.{Size}
use Rattle.assembly.specs.Meaning.{Meaning, void, plan, Plan, Proper, size_in, size_of, is_small}
use Rattle.layers.specs.declared.renumbering.Renumbering.{Renumbering}
use Rattle.layers.specs.Renumbered.{absent, moved_rows, moved_laws}
use Rattle.layers.specs.Layer.{layer_if, same_domain, domain_at, second_end}
use Rattle.repeat.specs.declared.copies.Copies.{Copies}
use Rattle.repeat.specs.declared.copies.Spot.{Spot}
use Rattle.repeat.specs.Limits.{most_copies}

-- The lists f 0, f 1, .. f (n - 1), one after the other.
abbrev pub in_turn : {X : Type 0} → ℕ → (ℕ → List X) → List X
in_turn n f = flat_map f (range_with_len 0 n)

-- The nodes from end to end: the first end, the n - 1 joints, which are the last inner nodes, the second
-- end. Copy i lies between stop i and stop i + 1.
abbrev pub stops : Size → ℕ → List ℕ
stops a n = 0 ∷ (range_with_len (2 + n * a.inner) (n - 1) ++ (1 ∷ []))

abbrev pub stop_at : Size → ℕ → ℕ → ℕ
stop_at a n i = slice_index_or (stops a n) i absent

-- The inner nodes and variables of copy i come behind those of the copies before it.
abbrev pub copy_place : Size → ℕ → ℕ → Renumbering
copy_place a n i = record {
  first = stop_at a n i;
  second = stop_at a n (i + 1);
  inner = a.inner;
  inner_from = 2 + i * a.inner;
  variables = a.variables;
  variables_from = i * a.variables;
}

abbrev pub in_copies : ℕ → Plan → Plan
in_copies n a = record {
  ends = a.ends;
  inner = in_turn n (λ i. a.inner) ++ in_turn (n - 1) (λ i. second_end a);
  variables = n * a.variables;
  rows = in_turn n (λ i. moved_rows (copy_place (size_in a) n i) a);
  laws = in_turn n (λ i. moved_laws (copy_place (size_in a) n i) a);
}

-- There are 1 to 1,000 copies.
abbrev pub is_count : ℕ → Bool
is_count n = nat_le 1 n && nat_le n most_copies

-- The part's two ends are of one domain.
abbrev pub meet : Meaning → Bool
meet m = same_domain (domain_at m 0) (domain_at m 1)

abbrev pub repeated : ℕ → Meaning → Meaning
repeated n void = void
repeated n (plan a) = layer_if (meet (plan a) && is_count n) (in_copies n a)

-- What the copies have together, with the joints between them.
abbrev pub times_size : ℕ → Size → Size
times_size n a = record {
  ends = 2;
  inner = n * a.inner + (n - 1);
  variables = n * a.variables;
  rows = n * a.rows;
  laws = n * a.laws;
}

-- This is what n copies of a part of size a have, and it is not too much.
pub record AreCopies (n : ℕ) (a : Size) (c : Copies) : Type 0 where
  pub part_is : c.part ≡ a
  pub times_is : c.times ≡ n
  pub whole_is : c.whole ≡ times_size n a
  pub count : is_count n ≡ true
  pub small : is_small c.whole ≡ true

-- What they have, or that there are none, or too many, or that they have too much.
abbrev pub SmallCopies : ℕ → Size → Option Copies → Type 0
SmallCopies n a r = MatchOption r ((is_count n && is_small (times_size n a)) ≡ false) (AreCopies n a)

-- The layer of n copies of the part m is not void, and c tells what it and one copy have. The part keeps to its bounds.
pub record Copied (n : ℕ) (m : Meaning) (c : Copies) : Type 0 where
  pub part_has : Some c.part ≡ size_of m
  pub times_has : c.times ≡ n
  pub whole_has : Some c.whole ≡ size_of (repeated n m)
  pub part_bounds : Proper m

-- What a layer of copies knows of the part: that it is void, or what it and one copy have.
abbrev pub ToldCopies : ℕ → Meaning → Option Copies → Type 0
ToldCopies n m r = MatchOption r (repeated n m ≡ void) (Copied n m)

-- Place k of n lists of one length is a place of one of them.
pub record IsSpot (len n k : ℕ) (s : Spot) : Type 0 where
  pub copied : s.copy < n
  pub inside : s.place < len
  pub is : s.copy * len + s.place ≡ k

-- The same of the things that copies have, of which each copy has so many, with that copy's numbers.
pub record IsSpotOf (c : Copies) (len k : ℕ) (s : Spot) : Type 0 where
  pub at : IsSpot len c.times k s
  pub numbers_are : s.numbers ≡ copy_place c.part c.times s.copy
