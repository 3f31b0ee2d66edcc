-- The line of an equation. An equation is a list of terms that add up to zero. On a sheet with V
-- variables, variable number V + n in a term means the potential of node n. A term is spelled by
-- its coefficient, sign first, by a letter that tells value (v), rate (r) and potential (p) apart, and by the number
-- of what has it, a variable or a node, in decimal. A blank stands between two terms. Behind the last one stand
-- " = 0" and a newline, and a sum without terms is spelled "0". So with V = 2:
--     +200v0 -1v1 = 0
--     +1v1 -1p0 +1p1 = 0
--     0 = 0
use Rattle.std.specs.Prelude.{ℕ, List, [], ◌∷◌, ◌++◌, ℤ, pos, negsuc, codes, decimal, unsigned_abs}
use Rattle.std.specs.List.{flat_map}
use Rattle.netlist.specs.declared.terms.Term.{Term}
use Rattle.spelling.specs.Symbols.{symbol, letter, number}

-- a coefficient of 0 has a sign too
abbrev pub sign : ℤ → List ℕ
sign (pos n) = codes "+"
sign (negsuc n) = codes "-"

abbrev pub term_text : ℕ → Term → List ℕ
term_text variables t =
    let q = symbol variables t in
    sign t.coefficient ++ (decimal (unsigned_abs t.coefficient) ++ (letter q ++ decimal (number q)))

-- terms, each behind a blank
abbrev pub rest_text : ℕ → List Term → List ℕ
rest_text variables ts = flat_map (λ t. codes " " ++ term_text variables t) ts

-- the terms, with single blanks between them
abbrev pub sum_text : ℕ → List Term → List ℕ
sum_text variables [] = codes "0"
sum_text variables (t ∷ ts) = term_text variables t ++ rest_text variables ts

abbrev pub line_text : ℕ → List Term → List ℕ
line_text variables ts = sum_text variables ts ++ codes " = 0\n"
