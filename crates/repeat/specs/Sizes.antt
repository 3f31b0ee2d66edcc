-- What copies of a part have, told by the size of the part alone.
use Rattle.std.specs.Prelude.{◌≡◌, ℕ, cond, true, ◌&&◌, Some, None, Option}
use Rattle.assembly.specs.declared.plans.Size.{Size}
use Rattle.assembly.specs.Meaning.{plan, Plan, Bounded, size_in, size_of, is_small}
use Rattle.repeat.specs.Repeat.{is_count, meet, times_size, repeated}

-- Nothing if there are none or too many, or if they have too much.
abbrev pub size_of_times : ℕ → Size → Option Size
size_of_times n a = cond (is_count n && is_small (times_size n a)) (Some (times_size n a)) None

-- THEOREM: so much do n copies have of any part of this size whose ends meet, and they are void for nothing else.
abbrev pub HaveInAll : ℕ → Size → Option Size → Type 0
HaveInAll n a r = (p : Plan) → Bounded p → size_in p ≡ a → meet (plan p) ≡ true → size_of (repeated n (plan p)) ≡ r
