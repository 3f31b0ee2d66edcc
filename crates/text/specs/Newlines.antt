-- The lines of a text.
use Rattle.std.specs.Prelude.{◌≡◌, ℕ, ◌+◌, ◌<◌, ◌≤◌, ◌⊎◌, List, [], ◌∷◌, ◌++◌, length, Option, MatchOption, ◌≢◌, slice_index}
use Rattle.text.specs.declared.line.TextLine.{TextLine}
use Rattle.text.specs.Grammar.{Bytes}
use Rattle.text.specs.Cut.{cut}

-- the lines, without their newlines; the last newline may be absent
abbrev pub lines_of : Bytes → List Bytes
lines_of text = cut 10 text

-- no byte is a newline
abbrev pub OneLine : Bytes → Type 0
OneLine bs = (k : ℕ) → k < length bs → slice_index bs k ≢ 10

-- the text is a line, its newline and the rest, or all of it is the last line
pub record FirstLine (text line rest : Bytes) : Type 0 where
  pub whole : OneLine line
  pub parts : (text ≡ line ++ 10 ∷ rest) ⊎ ((text ≡ line) × (rest ≡ []) × (1 ≤ length line))

-- the first line of the text is taken after n others, and then m are taken
pub record LineTaken (text : Bytes) (n : ℕ) (line : TextLine) (rest : Bytes) (m : ℕ) : Type 0 where
  pub first : FirstLine text line.bytes.now rest
  pub listed : lines_of text ≡ line.bytes.now ∷ lines_of rest
  pub number : line.number ≡ n + 1
  pub count : m ≡ n + 1

-- no line is left
pub record NoLine (text : Bytes) (n : ℕ) (rest : Bytes) (m : ℕ) : Type 0 where
  pub empty : text ≡ []
  pub listed : lines_of text ≡ []
  pub rest_empty : rest ≡ []
  pub count : m ≡ n

-- one turn of the iterator
abbrev pub LineStep : Bytes → ℕ → Option TextLine → Bytes → ℕ → Type 0
LineStep text n r rest m = MatchOption r (NoLine text n rest m) (λ line. LineTaken text n line rest m)

-- these lines, in their order
abbrev pub Splits : Bytes → List Bytes → Type 0
Splits text [] = text ≡ []
Splits text (l ∷ ls) = (rest : Bytes) × FirstLine text l rest × Splits rest ls

abbrev pub rejoined : List Bytes → Bytes
rejoined [] = []
rejoined (l ∷ ls) = l ++ (10 ∷ rejoined ls)

-- the lines with their newlines are the text, but for a last newline that is absent
abbrev pub Rejoins : Bytes → List Bytes → Type 0
Rejoins text ls = (rejoined ls ≡ text) ⊎ (rejoined ls ≡ text ++ 10 ∷ [])

-- what count lines answers: how many lines the text has, which are the text cut at its newlines
pub record LineCount (text : Bytes) (n : ℕ) : Type 0 where
  pub count : n ≡ length (lines_of text)
  pub splits : Splits text (lines_of text)
  pub rejoins : Rejoins text (lines_of text)
