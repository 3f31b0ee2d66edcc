-- What the reader says of a line, and what its fields are.
use Rattle.std.specs.Prelude.{◌≡◌, ℕ, ◌+◌, ◌<◌, ◌≤◌, List, [], ◌∷◌, length, drop, min, ℤ, pos, neg_ℤ, IfSome, Option, MatchOption, Result, MatchResult, ◌≢◌, slice_index, slice_index_or}
use Rattle.std.specs.List.{between}
use Rattle.text.specs.declared.line.Fault.{Fault}
use Rattle.text.specs.declared.line.Field.{Field}
use Rattle.text.specs.declared.line.Field.TheVariants.{Unsigned, Negative}
use Rattle.text.specs.declared.line.Fields.{Fields}
use Rattle.text.specs.declared.line.Line.{Line}
use Rattle.text.specs.declared.line.Line.TheVariants.{Node, Variables, Branch, Earth, Law, Repeat, Comment, Empty}
use Rattle.text.specs.declared.line.TextLine.{TextLine}
use Rattle.text.specs.Grammar.{Bytes, Allowed, spaced}
use Rattle.text.specs.Faults.{FaultAt}
use Rattle.text.specs.Decimal.{value_of_digits}
use Rattle.text.specs.Limits.{largest_number}

-- the line begins with c, and fs is what follows it
pub record Led (c : ℕ) (line : TextLine) (fs : Fields) : Type 0 where
  pub letter : slice_index_or line.bytes.now 0 0 ≡ c
  pub bytes : fs.bytes.now ≡ line.bytes.now
  pub number : fs.line ≡ line.number
  pub start : fs.at ≡ 1

-- the case is that of the line's letter, and has the line's number
abbrev pub Says : TextLine → Line → Type 0
Says line (Node fs) = Led 78 line fs
Says line (Variables fs) = Led 86 line fs
Says line (Branch fs) = Led 66 line fs
Says line (Earth fs) = Led 69 line fs
Says line (Law fs) = Led 76 line fs
Says line (Repeat fs) = Led 67 line fs
Says line (Comment text n) = (line.bytes.now ≡ 35 ∷ text.now) × (n ≡ line.number)
Says line (Empty n) = (line.bytes.now ≡ []) × (n ≡ line.number)

-- the line is allowed, and v is its case; or it goes wrong at this column
abbrev pub ReadsLine : TextLine → Result Line Fault → Type 0
ReadsLine line r =
    MatchResult r (λ v. Allowed line.bytes.now × Says line v) (λ f. FaultAt Allowed line.bytes.now f.column)

-- the line is allowed, and fs is what follows its letter; or it goes wrong at this column
abbrev pub ReadsFields : TextLine → Result Fields Fault → Type 0
ReadsFields line r =
    MatchResult r
    (λ fs. Allowed line.bytes.now × Led (slice_index line.bytes.now 0) line fs)
    (λ f. FaultAt Allowed line.bytes.now f.column)

abbrev pub digits_of : Field → Bytes
digits_of (Unsigned digits n column) = digits.now
digits_of (Negative digits n column) = digits.now

-- the number that the field writes, with its sign
abbrev pub value_of : Field → ℤ
value_of (Unsigned digits n column) = pos (value_of_digits digits.now)
value_of (Negative digits n column) = neg_ℤ (pos (value_of_digits digits.now))

-- the same, where no number counts as more than the largest
abbrev pub capped_value_of : Field → ℤ
capped_value_of (Unsigned digits n column) = pos (min (value_of_digits digits.now) largest_number)
capped_value_of (Negative digits n column) = neg_ℤ (pos (min (value_of_digits digits.now) largest_number))

-- the field is written as g: only a field with a minus in front is negative
abbrev pub Spells : Field → Bytes → Type 0
Spells (Unsigned digits n column) g = (g ≡ digits.now) × (1 ≤ length g → slice_index g 0 ≢ 45)
Spells (Negative digits n column) g = g ≡ 45 ∷ digits.now

-- the field stands at this line and column
abbrev pub Stands : Field → ℕ → ℕ → Type 0
Stands (Unsigned digits n column) line at = (n ≡ line) × (column ≡ at)
Stands (Negative digits n column) line at = (n ≡ line) × (column ≡ at)

-- no byte is a blank
abbrev pub Unbroken : Bytes → Type 0
Unbroken f = (k : ℕ) → k < length f → slice_index f k ≢ 32

-- what is left to read
abbrev pub rest_of : Fields → Bytes
rest_of s = drop s.at s.bytes.now

-- f is the part of the line after the blank at s, up to the next blank or the end, where t stands
pub record Taken (s : Fields) (f : Field) (t : Fields) : Type 0 where
  pub stands : Stands f s.line (s.at + 2)
  pub spells : Spells f (between (s.at + 1) t.at s.bytes.now)
  pub low : s.at < t.at
  pub high : t.at ≤ length s.bytes.now

-- the next field of s is taken, and t is what is left; none is taken at the line's end
abbrev pub Takes : Fields → Option Field → Fields → Type 0
Takes s r t =
    (t.bytes.now ≡ s.bytes.now) × (t.line ≡ s.line)
    × MatchOption r ((length s.bytes.now ≤ s.at) × (t.at ≡ s.at)) (λ f. Taken s f t)

-- where fields stand in a row, the first is taken, and the others are left
abbrev pub TakesFirst : Fields → Option Field → Fields → Type 0
TakesFirst s r t =
    (g : Bytes) (gs : List Bytes) → rest_of s ≡ spaced (g ∷ gs) → Unbroken g
    → MatchOption r ⊥ (λ f. Spells f g × (rest_of t ≡ spaced gs))

-- where nothing is left, none is taken
abbrev pub TakesNone : Fields → Option Field → Type 0
TakesNone s r = rest_of s ≡ [] → IfSome r (λ f. ⊥)

-- one turn of the iterator
pub record FieldStep (s : Fields) (r : Option Field) (t : Fields) : Type 0 where
  pub takes : Takes s r t
  pub first : TakesFirst s r t
  pub none : TakesNone s r
