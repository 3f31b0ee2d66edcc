-- What a line of readings says.
use Rattle.std.specs.Prelude.{◌≡◌, ◌≤◌, ℕ, [], ◌∷◌, ◌++◌, ◌⊎◌, ℤ, Option, None, Some, Result, MatchResult}
use Rattle.text.specs.declared.line.TextLine.{TextLine}
use Rattle.text.specs.Grammar.{Bytes}
use Rattle.small_readings.specs.Small.{IsSmall}
use Rattle.readings_text.specs.declared.faults.ReadingsFault.{ReadingsFault}
use Rattle.readings_text.specs.declared.faults.ReadingsFault.TheVariants.{Form, TooLarge, TooMany, TooFew}
use Rattle.readings_text.specs.declared.lines.Reading.{Reading}
use Rattle.readings_text.specs.declared.numbers.Written.{Written}
use Rattle.readings_text.specs.declared.numbers.Written.TheVariants.{Small, Large}
use Rattle.readings_text.specs.Numbers.{Writes, IsLarge, Keeps}

-- an empty line and a comment say nothing
abbrev pub Silent : Bytes → Type 0
Silent [] = Unit {0}
Silent (b ∷ bs) = b ≡ 35

-- a text of which P holds, a blank, and a text of which Q holds
abbrev pub Pair : (Bytes → Type 0) → (Bytes → Type 0) → Bytes → Type 0
Pair P Q line = (f g : Bytes) × (line ≡ f ++ 32 ∷ g) × P f × Q g

-- two whole numbers, however large, with a blank between them
abbrev pub WritesPair : Bytes → ℤ → ℤ → Type 0
WritesPair line x y = Pair (λ f. Writes f x) (λ g. Writes g y) line

-- what is kept of two numbers
abbrev pub KeepsPair : Bytes → Written × Written → Type 0
KeepsPair line kept = Pair (λ f. Keeps (Writes f) kept.0) (λ g. Keeps (Writes g) kept.1) line

-- one of the two is too large
abbrev pub HasLarge : Written × Written → Type 0
HasLarge kept = (kept.0 ≡ Large) ⊎ (kept.1 ≡ Large)

-- they are the value and the rate
abbrev pub IsPair : Written × Written → Reading → Type 0
IsPair kept v = (kept.0 ≡ Small v.value) × (kept.1 ≡ Small v.rate)

-- the value, a blank and the rate, both small
abbrev pub WritesReading : Bytes → Reading → Type 0
WritesReading line v = WritesPair line v.value.value v.rate.value × IsSmall v.value × IsSmall v.rate

-- two numbers, one of which is too large
abbrev pub WritesLarge : Bytes → Type 0
WritesLarge line = (x y : ℤ) × WritesPair line x y × (IsLarge x ⊎ IsLarge y)

-- the line says nothing, or it writes what is read, and a reading is wanted
abbrev pub ReadsReading : ℕ → Bytes → Option Reading → Type 0
ReadsReading wanted line None = Silent line
ReadsReading wanted line (Some v) = WritesReading line v × (1 ≤ wanted)

-- what is wrong with the line, which is line n of its text, where so many readings are wanted
abbrev pub ReadingAtFault : ℕ → ℕ → Bytes → ReadingsFault → Type 0
ReadingAtFault wanted n line (Form at) = (at ≡ n) × (Silent line → ⊥) × ((x y : ℤ) → WritesPair line x y → ⊥)
ReadingAtFault wanted n line (TooLarge at) = (at ≡ n) × WritesLarge line
ReadingAtFault wanted n line (TooMany at) = (at ≡ n) × (wanted ≡ 0) × (v : Reading) × WritesReading line v
ReadingAtFault wanted n line (TooFew at) = ⊥

-- what is said of a line of a text: what it reads, or its fault
abbrev pub SaidOfLine : ℕ → TextLine → Result (Option Reading) ReadingsFault → Type 0
SaidOfLine wanted line r =
    MatchResult r (ReadsReading wanted line.bytes.now) (ReadingAtFault wanted line.number line.bytes.now)
