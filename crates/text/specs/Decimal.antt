-- The numbers that digits write.
use Rattle.std.specs.Prelude.{ℕ, ◌+◌, ◌-◌, ◌*◌, cond, [], ◌∷◌, ℤ, pos, neg_ℤ, ◌==◌}
use Rattle.text.specs.Grammar.{Bytes}

-- the digits of bs after those that write n
abbrev pub value_of_more_digits : ℕ → Bytes → ℕ
value_of_more_digits n [] = n
value_of_more_digits n (b ∷ bs) = value_of_more_digits (n * 10 + (b - 48)) bs

abbrev pub value_of_digits : Bytes → ℕ
value_of_digits bs = value_of_more_digits 0 bs

-- a minus in front negates
abbrev pub value_of_signed : Bytes → ℤ
value_of_signed [] = pos 0
value_of_signed (b ∷ bs) = cond (b == 45) (neg_ℤ (pos (value_of_digits bs))) (pos (value_of_digits (b ∷ bs)))
