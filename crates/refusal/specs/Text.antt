-- How a user is told of a refusal: the word "refused", its number, its place and its cause in decimal, each behind a
-- blank.
use Rattle.std.specs.Prelude.{ℕ, List, ◌++◌, codes, decimal}

abbrev pub refusal_text : ℕ → ℕ → ℕ → List ℕ
refusal_text number place cause =
    codes "refused " ++ decimal number ++ codes " " ++ decimal place ++ codes " " ++ decimal cause

-- what refuses, by the three functions that tell it
abbrev pub told_as : {R : Type 0} → (R → ℕ) → (R → ℕ) → (R → ℕ) → R → List ℕ
told_as number place cause why = refusal_text (number why) (place why) (cause why)
