-- The lines of the potentials.
use Rattle.std.specs.Prelude.{ℕ, ◌+◌, List, [], ◌∷◌, ◌++◌, codes, decimal}
use Rattle.std.specs.Fmt.{signed_decimal}
use Rattle.quantity.specs.declared.numbers.Whole.{Whole}
use Rattle.text.specs.Grammar.{Bytes}

-- the node, and its potential
abbrev pub potential_text : ℕ → Whole → Bytes
potential_text n p = codes "p" ++ decimal n ++ codes " = " ++ signed_decimal p.value ++ codes "\n"

-- those of node n and of the nodes behind it
abbrev pub potentials_text : ℕ → List Whole → Bytes
potentials_text n [] = []
potentials_text n (p ∷ ps) = potential_text n p ++ potentials_text (n + 1) ps
