-- What a program prints of a sheet text.
use Rattle.std.specs.Prelude.{◌≡◌, ◌++◌, length, Ok, Err}
use Rattle.std.specs.List.{flat_map}
use Rattle.netlist.specs.Netlist.{Netlist, empty}
use Rattle.text.specs.Grammar.{Bytes}
use Rattle.spelling.specs.Headers.{header_text}
use Rattle.spelling.specs.Lines.{line_text}
use Rattle.equation.specs.Equations.{equations_of}
use Rattle.sheet_reader.specs.Faults.{fault_line}
use Rattle.sheet_reader.specs.Reading.{TextAnswer, ReadsText}

-- the line of each equation
abbrev pub lines_text : Netlist → Bytes
lines_text b = flat_map (line_text b.variables) (equations_of b)

-- how many equations there are, and the line of each
abbrev pub sheet_text : Netlist → Bytes
sheet_text b = header_text (length (equations_of b)) ++ lines_text b

-- what is printed once a text is read with this answer and leaves this netlist
abbrev pub printed : TextAnswer → Netlist → Bytes
printed (Ok done) c = sheet_text c
printed (Err fault) c = fault_line fault

-- The text is read on an empty netlist with this answer, and what is printed then stands behind old.
abbrev pub Prints : Bytes → TextAnswer → Bytes → Bytes → Type 0
Prints text r old new = (c : Netlist) × ReadsText text empty r c × (new ≡ old ++ printed r c)
