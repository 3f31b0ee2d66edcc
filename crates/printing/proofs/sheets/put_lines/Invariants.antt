use Rattle.std.proofs.Common.{◌≡◌, ◌≤◌, ◌++◌, length, take}
use Rattle.std.specs.List.{flat_map}
use Rattle.spelling.specs.Lines.{line_text}
use Rattle.equation.specs.Equations.{equations_of}
use Rattle.equation.specs.Printing.{line_bytes}
use Rattle.printing.proofs.sheets.put_lines.Given as goal

-- the first k lines are printed
abbrev pub invariant-loop-span : goal.invariant-loop-span
invariant-loop-span l = record {
  room : line_bytes ≤ length l.buffer;
  printed : l.out.items ≡ l.fn.out.items ++ flat_map (line_text l.sheet.variables) (take l.span-index (equations_of l.sheet));
}
