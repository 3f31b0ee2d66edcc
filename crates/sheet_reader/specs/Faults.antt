-- The line, the column, the number, the place and the cause of each fault of a text, and how they are told.
use Rattle.std.specs.Prelude.{ℕ, List, ◌++◌, codes, decimal}
use Rattle.calls.specs.Refusals as call
use Rattle.sheet_reader.specs.declared.faults.TextFault.{TextFault}
use Rattle.sheet_reader.specs.declared.faults.TextFault.TheVariants.{Form, TooLong, Refused}

-- lines and columns are counted from 1; a text that is too long has neither
abbrev pub line_of : TextFault → ℕ
line_of (Form line column) = line
line_of TooLong = 0
line_of (Refused line why) = line

-- a refused call is told at the first column of its line
abbrev pub column_of : TextFault → ℕ
column_of (Form line column) = column
column_of TooLong = 0
column_of (Refused line why) = 1

abbrev pub number_of : TextFault → ℕ
number_of (Form line column) = 11
number_of TooLong = 12
number_of (Refused line why) = call.number_of why

abbrev pub place_of : TextFault → ℕ
place_of (Form line column) = 0
place_of TooLong = 0
place_of (Refused line why) = call.place_of why

abbrev pub cause_of : TextFault → ℕ
cause_of (Form line column) = 0
cause_of TooLong = 0
cause_of (Refused line why) = call.cause_of why

-- how a user is told of it
abbrev pub fault_text : TextFault → List ℕ
fault_text f =
    (codes "fault " ++ decimal (line_of f) ++ codes " " ++ decimal (column_of f) ++ codes " ")
    ++ (decimal (number_of f) ++ codes " " ++ decimal (place_of f) ++ codes " " ++ decimal (cause_of f))

-- no fault's line is longer: a word, and five numbers of at most 20 digits, each behind a blank
abbrev pub most_fault_bytes : ℕ
most_fault_bytes = 111

-- the line that a program prints
abbrev pub fault_line : TextFault → List ℕ
fault_line f = fault_text f ++ codes "\n"
