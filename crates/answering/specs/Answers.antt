-- What is printed of a sheet that was accepted with readings.
use Rattle.std.specs.Prelude.{List, [], ◌++◌}
use Rattle.quantity.specs.declared.numbers.Whole.{Whole}
use Rattle.netlist.specs.Netlist.{Netlist}
use Rattle.text.specs.Grammar.{Bytes}
use Rattle.printing.specs.Printing.{sheet_text}
use Rattle.checking.specs.declared.verdicts.Verdict.{Verdict}
use Rattle.checking.specs.declared.verdicts.Verdict.TheVariants.{Holds, Law, Node, Row}
use Rattle.answering.specs.Potentials.{potentials_text}
use Rattle.answering.specs.Verdicts.{verdict_text}

-- the potentials are told where the readings agree
abbrev pub told : Verdict → List Whole → Bytes
told Holds ps = potentials_text 0 ps
told (Law k) ps = []
told (Node n) ps = []
told (Row k) ps = []

-- the equations, the verdict and the potentials
abbrev pub accepted_text : Netlist → Verdict → List Whole → Bytes
accepted_text b verdict ps = sheet_text b ++ verdict_text verdict ++ told verdict ps
