-- What the line of equation k is, and when it is not printed.
use Rattle.std.specs.Prelude.{◌≡◌, ℕ, ◌<◌, ◌≤◌, List, [], ◌∷◌, length, Option, Result, nat_le, nat_lt, slice_index_or}
use Rattle.netlist.specs.Buffers.{filled}
use Rattle.netlist.specs.Netlist.{Netlist}
use Rattle.refusal.specs.Tests.{Tests, first_of, answer}
use Rattle.spelling.specs.declared.refusals.WriteRefusal.{WriteRefusal}
use Rattle.spelling.specs.Lines.{line_text}
use Rattle.spelling.specs.Rules.{answer_text, printed}
use Rattle.equation.specs.declared.refusals.EquationRefusal.{EquationRefusal}
use Rattle.equation.specs.declared.refusals.EquationRefusal.TheVariants.{ShortBuffer, NoEquation}
use Rattle.equation.specs.Equations.{equations_of}

-- the line of equation k
abbrev pub line_of : Netlist → ℕ → List ℕ
line_of b k = line_text b.variables (slice_index_or (equations_of b) k [])

-- line(k, buffer)
abbrev pub table_line : Netlist → ℕ → List ℕ → Tests EquationRefusal
table_line b k buffer =
    (nat_le (length (equations_of b)) k, NoEquation)
    ∷ (nat_lt (length buffer) (length (line_of b k)), ShortBuffer)
    ∷ []

abbrev pub judge_line : Netlist → ℕ → List ℕ → Option EquationRefusal
judge_line b k buffer = first_of (table_line b k buffer)

-- how many bytes are written
abbrev pub answer_line : Netlist → ℕ → List ℕ → Result ℕ EquationRefusal
answer_line b k buffer = answer (judge_line b k buffer) (length (line_of b k))

-- what the buffer holds afterwards
abbrev pub left_line : Netlist → ℕ → List ℕ → List ℕ
left_line b k buffer = filled (judge_line b k buffer) buffer (line_of b k)

-- A buffer of so many bytes holds each line of a sheet: the sum at a node, the longest, has a term for each row at
-- most, each of at most 8 bytes with its blank.
abbrev pub line_bytes : ℕ
line_bytes = 16384

-- if there is an equation k, its line fits such a buffer
abbrev pub LineFits : Netlist → ℕ → Type 0
LineFits b k = k < length (equations_of b) → length (line_of b k) ≤ line_bytes

-- the buffer held old, and text was to be printed into it
pub record Printed (old text : List ℕ) (answered : Result ℕ WriteRefusal) (new : List ℕ) : Type 0 where
  pub answer : answered ≡ answer_text old text
  pub buffer : new ≡ printed old text
