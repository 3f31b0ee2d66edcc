-- How much a netlist has of each thing.
use Rattle.std.specs.Prelude.{length}
use Rattle.netlist.specs.Netlist.{Netlist}
use Rattle.sheet.specs.declared.counts.Counts.{Counts}

abbrev pub counts_of : Netlist → Counts
counts_of b = record { nodes = length b.domains; variables = b.variables; rows = length b.rows; laws = length b.laws }
