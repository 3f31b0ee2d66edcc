-- The line above a list of equations: the word "equations", and how many there are.
use Rattle.std.specs.Prelude.{ℕ, List, [], ◌∷◌, codes}
use Rattle.spelling.specs.Numbers.{numbers_line}

abbrev pub header_text : ℕ → List ℕ
header_text equations = numbers_line (codes "equations") (equations ∷ [])
