-- What two parts of a layer have together: the first part's things, and behind them the second's.
use Rattle.std.specs.Prelude.{List, ◌++◌, map, drop}
use Rattle.netlist.specs.declared.domains.Domain.{Domain}
use Rattle.assembly.specs.Plans.{PlanRow, PlanTerm}
use Rattle.assembly.specs.Meaning.{Meaning, domains_of, rows_of, laws_of}
use Rattle.layers.specs.declared.renumbering.Renumbering.{Renumbering}
use Rattle.layers.specs.Renumbered.{moved_row, moved_term}

-- The domains of the first part's nodes and of the second part's inner nodes.
abbrev pub joined_domains : Meaning → Meaning → List Domain
joined_domains m n = domains_of m ++ drop 2 (domains_of n)

-- The rows of both, each part's moved by a renumbering of its own.
abbrev pub joined_rows : Renumbering → Renumbering → Meaning → Meaning → List PlanRow
joined_rows p q m n = map (moved_row p) (rows_of m) ++ map (moved_row q) (rows_of n)

-- The laws of both, moved likewise.
abbrev pub joined_laws : Renumbering → Renumbering → Meaning → Meaning → List (List PlanTerm)
joined_laws p q m n = map (map (moved_term p)) (laws_of m) ++ map (map (moved_term q)) (laws_of n)
