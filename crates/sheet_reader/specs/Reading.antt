-- What reading a text draws on a netlist b, and what it answers: r is the answer, and c the netlist afterwards.
use Rattle.std.specs.Prelude.{◌≡◌, ℕ, ◌+◌, ◌<◌, ◌≤◌, ◌⊎◌, List, [], ◌∷◌, length, None, Some, Ok, Err, Result, IsErrAnd, MatchResult}
use Rattle.netlist.specs.Netlist.{Netlist}
use Rattle.text.specs.declared.line.TextLine.{TextLine}
use Rattle.text.specs.Grammar.{Bytes, Allowed}
use Rattle.text.specs.Faults.{FaultAt}
use Rattle.text.specs.Limits.{most_bytes}
use Rattle.text.specs.Newlines.{lines_of}
use Rattle.commands.specs.Spelling.{command_of}
use Rattle.sheet_reader.specs.declared.faults.TextFault.{TextFault}
use Rattle.sheet_reader.specs.declared.faults.TextFault.TheVariants.{Form, TooLong, Refused}
use Rattle.sheet_reader.specs.Drawing.{judge_command, after_command}

-- what the reader of texts answers
abbrev pub TextAnswer : Type 0
TextAnswer = Result (Unit {0}) TextFault

-- the line is allowed, and what it commands is not refused
abbrev pub Passes : Netlist → Bytes → Type 0
Passes b line = Allowed line × (judge_command b (command_of line) ≡ None)

-- the netlist once the line is drawn
abbrev pub after_line : Netlist → Bytes → Netlist
after_line b line = after_command b (command_of line)

-- what is wrong with the line, which is line n of its text: it is not allowed, or it is and what it commands is refused
abbrev pub AtFault : Netlist → ℕ → Bytes → TextFault → Type 0
AtFault b n line (Form at column) = (at ≡ n) × FaultAt Allowed line column
AtFault b n line TooLong = ⊥
AtFault b n line (Refused at why) = (at ≡ n) × Allowed line × (judge_command b (command_of line) ≡ Some why)

-- The line passes and is drawn; or it is at fault, and nothing is.
abbrev pub DrawsLine : Netlist → TextLine → TextAnswer → Netlist → Type 0
DrawsLine b line r c =
    MatchResult r
    (λ _. Passes b line.bytes.now × (c ≡ after_line b line.bytes.now))
    (λ f. AtFault b line.number line.bytes.now f × (c ≡ b))

-- The lines are drawn in turn, up to the first at fault. n lines stand before these.
abbrev pub ReadsLines : Netlist → ℕ → List Bytes → TextAnswer → Netlist → Type 0
ReadsLines b n [] r c = (r ≡ Ok tt) × (c ≡ b)
ReadsLines b n (line ∷ lines) r c =
    (Passes b line × ReadsLines (after_line b line) (n + 1) lines r c)
    ⊎ (IsErrAnd r (AtFault b (n + 1) line) × (c ≡ b))

-- a text that is too long draws nothing
abbrev pub ReadsText : Bytes → Netlist → TextAnswer → Netlist → Type 0
ReadsText text b r c =
    ((most_bytes < length text) × (r ≡ Err TooLong) × (c ≡ b))
    ⊎ ((length text ≤ most_bytes) × ReadsLines b 0 (lines_of text) r c)
