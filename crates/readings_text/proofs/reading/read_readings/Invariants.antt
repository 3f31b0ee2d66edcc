use Rattle.std.proofs.Common.{◌≡◌, List, ◌++◌, map}
use Rattle.text.specs.Newlines.{lines_of}
use Rattle.readings_text.specs.declared.lines.Reading.{Reading}
use Rattle.readings_text.specs.Readings.{Gives, ReadingsAnswer}
use Rattle.readings_text.proofs.reading.read_readings.Given as goal

-- these are read, and reading on from the lines that are left is reading all of them
abbrev pub invariant-loop-line : goal.invariant-loop-line
invariant-loop-line l =
    (vs : List Reading)
    × (l.values.items ≡ l.fn.values.items ++ map (λ (v : Reading). v.value) vs)
    × (l.rates.items ≡ l.fn.rates.items ++ map (λ (v : Reading). v.rate) vs)
    × (l.last ≡ l.line-iterator.taken)
    × ((r : ReadingsAnswer) (ws : List Reading) → Gives l.wanted l.line-iterator.taken (lines_of l.line-iterator.rest.now) r ws → Gives l.variables 0 (lines_of l.text) r (vs ++ ws))
