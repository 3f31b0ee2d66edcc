-- Bytes, cut at each separator.
use Rattle.std.specs.Prelude.{ℕ, cond, List, [], ◌∷◌, ◌==◌}
use Rattle.text.specs.Grammar.{Bytes}

-- the byte, and after it the first piece
abbrev pub onto_first : ℕ → List Bytes → List Bytes
onto_first b [] = (b ∷ []) ∷ []
onto_first b (p ∷ ps) = (b ∷ p) ∷ ps

-- the pieces that the separators end, without them; the last piece may lack its separator
unfoldable pub cut : ℕ → Bytes → List Bytes
cut sep [] = []
cut sep (b ∷ bs) = cond (b == sep) ([] ∷ cut sep bs) (onto_first b (cut sep bs))
