-- The place where a line that is not allowed goes wrong.
use Rattle.std.specs.Prelude.{◌≡◌, ℕ, ◌+◌, ◌-◌, ◌≤◌, ◌++◌, length, take}
use Rattle.text.specs.Grammar.{Bytes, Allowed}

-- some line of L begins with p
abbrev pub Begins : (Bytes → Type 0) → Bytes → Type 0
Begins L p = (t : Bytes) × L (p ++ t)

-- the line is not in L, the bytes before the column begin a line of L, and with the byte at the column they do not;
-- one past the line's end there is no such byte
pub record FaultAt (L : Bytes → Type 0) (line : Bytes) (column : ℕ) : Type 0 where
  pub first : 1 ≤ column
  pub within : column ≤ length line + 1
  pub begins : Begins L (take (column - 1) line)
  pub stops : column ≤ length line → Begins L (take column line) → ⊥
  pub refused : L line → ⊥

-- a line has no two fault columns
abbrev pub OneColumn : Type 0
OneColumn = (line : Bytes) (c d : ℕ) → FaultAt Allowed line c → FaultAt Allowed line d → c ≡ d
