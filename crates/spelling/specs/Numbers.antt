-- A line that tells numbers: a word, each number in decimal behind a blank, and a newline.
use Rattle.std.specs.Prelude.{ℕ, List, ◌++◌, codes, decimal}
use Rattle.std.specs.List.{flat_map}

-- numbers, each behind a blank
abbrev pub numbers_text : List ℕ → List ℕ
numbers_text ns = flat_map (λ n. codes " " ++ decimal n) ns

abbrev pub numbers_line : List ℕ → List ℕ → List ℕ
numbers_line word numbers = word ++ (numbers_text numbers ++ codes "\n")
