-- Room that is reserved once, so that later calls need no memory.
use Rattle.std.specs.Prelude.{ℕ, ◌≤◌, vec_len, vec_capacity, Vec}

-- at most n entries, and room for n
abbrev pub Roomy : {X Z : Type 0} → Vec X Z → ℕ → Type 0
Roomy v n = (vec_len v ≤ n) × (n ≤ vec_capacity v)
