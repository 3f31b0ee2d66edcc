-- When a line is printed, and what is answered. It is refused if the buffer is shorter than the line;
-- else the answer is how many bytes were written.
use Rattle.std.specs.Prelude.{ℕ, List, [], ◌∷◌, length, Option, Result, nat_lt}
use Rattle.spelling.specs.declared.refusals.WriteRefusal.{WriteRefusal}
use Rattle.spelling.specs.declared.refusals.WriteRefusal.TheVariants.{ShortBuffer}
use Rattle.netlist.specs.Buffers.{filled}
use Rattle.refusal.specs.Tests.{Tests, first_of, answer}

abbrev pub table_text : List ℕ → List ℕ → Tests WriteRefusal
table_text buffer text =
    (nat_lt (length buffer) (length text), ShortBuffer)
    ∷ []

abbrev pub judge_text : List ℕ → List ℕ → Option WriteRefusal
judge_text buffer text = first_of (table_text buffer text)

abbrev pub answer_text : List ℕ → List ℕ → Result ℕ WriteRefusal
answer_text buffer text = answer (judge_text buffer text) (length text)

-- the buffer afterwards
abbrev pub printed : List ℕ → List ℕ → List ℕ
printed buffer text = filled (judge_text buffer text) buffer text
