-- What reading a text of readings comes to.
use Rattle.std.specs.Prelude.{◌≡◌, ◌≤◌, ℕ, ◌+◌, ◌-◌, cond, ◌==◌, ◌⊎◌, List, [], ◌∷◌, ◌++◌, map, length, Result, Ok, Err, IsErrAnd}
use Rattle.quantity.specs.declared.numbers.Whole.{Whole}
use Rattle.small_readings.specs.Small.{AreSmall}
use Rattle.text.specs.Grammar.{Bytes}
use Rattle.text.specs.Newlines.{lines_of}
use Rattle.readings_text.specs.declared.faults.ReadingsFault.{ReadingsFault}
use Rattle.readings_text.specs.declared.faults.ReadingsFault.TheVariants.{TooFew}
use Rattle.readings_text.specs.declared.lines.Reading.{Reading}
use Rattle.readings_text.specs.Lines.{Silent, WritesReading, ReadingAtFault}

-- what the reader of readings answers
abbrev pub ReadingsAnswer : Type 0
ReadingsAnswer = Result (Unit {0}) ReadingsFault

-- The lines read vs in turn, up to the first line at fault. n lines stand before these, and so many readings are
-- wanted.
abbrev pub Gives : ℕ → ℕ → List Bytes → ReadingsAnswer → List Reading → Type 0
Gives wanted n [] r vs = (vs ≡ []) × (r ≡ cond (wanted == 0) (Ok tt) (Err (TooFew n)))
Gives wanted n (line ∷ lines) r vs =
    (Silent line × Gives wanted (n + 1) lines r vs)
    ⊎ ((v : Reading) × (ws : List Reading)
    × WritesReading line v × (1 ≤ wanted) × (vs ≡ v ∷ ws) × Gives (wanted - 1) (n + 1) lines r ws)
    ⊎ (IsErrAnd r (ReadingAtFault wanted (n + 1) line) × (vs ≡ []))

-- the text reads these, whose values and rates stand behind the old ones
abbrev pub ReadsReadings : Bytes → ℕ → ReadingsAnswer → List Whole → List Whole → List Whole → List Whole → Type 0
ReadsReadings text variables r values rates values' rates' =
    (vs : List Reading)
    × Gives variables 0 (lines_of text) r vs
    × (values' ≡ values ++ map (λ (v : Reading). v.value) vs)
    × (rates' ≡ rates ++ map (λ (v : Reading). v.rate) vs)

-- The readings behind the old ones are small. Where the text is read to its end, each variable has one.
pub record AddsReadings (variables : ℕ) (r : ReadingsAnswer) (old new : List Whole) : Type 0 where
  pub small : AreSmall old → AreSmall new
  pub complete : r ≡ Ok tt → length new ≡ length old + variables

-- THEOREM: so it is with values and with rates
abbrev pub ReadingsFit : Type 0
ReadingsFit =
    (text : Bytes) (variables : ℕ) (r : ReadingsAnswer) (values rates values' rates' : List Whole)
    → ReadsReadings text variables r values rates values' rates'
    → AddsReadings variables r values values' × AddsReadings variables r rates rates'
