-- What reading a text comes to as a whole: which lines are drawn, when all of them are, and that no other answer
-- fits.
use Rattle.std.specs.Prelude.{◌≡◌, ℕ, ◌+◌, ◌<◌, ◌≤◌, ◌↔◌, List, [], ◌∷◌, length, take, IsOk, MatchResult, slice_index_or}
use Rattle.netlist.specs.Netlist.{Netlist}
use Rattle.text.specs.Grammar.{Bytes}
use Rattle.text.specs.Limits.{most_bytes}
use Rattle.text.specs.Newlines.{lines_of}
use Rattle.sheet_reader.specs.Reading.{TextAnswer, Passes, after_line, AtFault, ReadsText}

-- each line passes, on the netlist that the lines before it leave
abbrev pub AllPass : Netlist → List Bytes → Type 0
AllPass b [] = Unit {0}
AllPass b (line ∷ lines) = Passes b line × AllPass (after_line b line) lines

-- the netlist once all of them are drawn
abbrev pub after_lines : Netlist → List Bytes → Netlist
after_lines b [] = b
after_lines b (line ∷ lines) = after_lines (after_line b line) lines

-- So many of the lines pass, and c is the netlist once they are drawn. They are all the lines, or the next one is at
-- fault. n lines stand before these.
pub record Reached (b : Netlist) (n : ℕ) (lines : List Bytes) (r : TextAnswer) (c : Netlist) : Type 0 where
  pub count : ℕ
  pub pass : AllPass b (take count lines)
  pub drawn : c ≡ after_lines b (take count lines)
  pub stop :
      MatchResult r
      (λ _. count ≡ length lines)
      (λ f. (count < length lines) × AtFault c (n + count + 1) (slice_index_or lines count []) f)

-- what holds of each reading of a text
pub record ReadingLaw (text : Bytes) (b : Netlist) (r : TextAnswer) (c : Netlist) : Type 0 where
  pub reached : length text ≤ most_bytes → Reached b 0 (lines_of text) r c
  -- a text is accepted exactly if it fits, each line is allowed and no call is refused
  pub accepted : IsOk r ↔ (length text ≤ most_bytes) × AllPass b (lines_of text)
  -- no other answer and no other netlist fits
  pub only : (other : TextAnswer) (d : Netlist) → ReadsText text b other d → (other ≡ r) × (d ≡ c)
