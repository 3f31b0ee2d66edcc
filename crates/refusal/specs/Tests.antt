-- When a call is refused, what it answers, and what it leaves. Each call has a table: tests in their order, each with
-- the refusal that it leads to. R is what refuses.
use Rattle.std.specs.Prelude.{Bool, cond, List, [], ◌∷◌, Some, None, Ok, Err, Option, Result}

abbrev pub Tests : Type 0 → Type 0
Tests R = List (Bool × R)

-- the first line whose test holds
abbrev pub first_of : {R : Type 0} → Tests R → Option R
first_of [] = None
first_of (line ∷ rest) = cond line.0 (Some line.1) (first_of rest)

abbrev pub answer : {R X : Type 0} → Option R → X → Result X R
answer None x = Ok x
answer (Some why) x = Err why

-- what a call leaves; a refusal leaves what was there before
abbrev pub after : {R S : Type 0} → Option R → S → S → S
after None before done = done
after (Some why) before done = before
