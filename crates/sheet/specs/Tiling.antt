-- Where the laws lie in the table of their terms.
use Rattle.std.specs.Prelude.{ℕ, ◌+◌, Bool, ◌&&◌, List, [], ◌∷◌, map, ◌==◌}
use Rattle.netlist.specs.declared.spans.Span.{Span}

-- laws lie one behind another from this place on, and the last ends at that one
abbrev pub tile : ℕ → List Span → ℕ → Bool
tile at [] end = at == end
tile at (span ∷ spans) end = span.offset == at && tile (at + span.length) spans end

-- how many terms each law has
abbrev pub lengths : List Span → List ℕ
lengths spans = map (λ span. span.length) spans
