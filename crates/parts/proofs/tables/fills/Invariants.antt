use Rattle.std.proofs.Common.{◌≡◌, ◌*◌, ◌≤◌, drop}
use Rattle.netlist.specs.Limits.{most_terms_of_law}
use Rattle.parts.specs.Tables.{fill}
use Rattle.parts.proofs.tables.fills.Given as goal

abbrev pub invariant-loop-s : goal.invariant-loop-s
invariant-loop-s l = (fill l.at (drop l.s-index l.parts) l.terms ≡ fill 0 l.parts l.terms) × (l.at ≤ most_terms_of_law * l.s-index)
