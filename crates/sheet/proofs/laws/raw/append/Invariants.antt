use Rattle.std.proofs.Common.{◌≡◌, ◌+◌, ◌++◌, map, take, vec_items, vec_len, vec_capacity}
use Rattle.netlist.specs.Netlist.{term_of}
use Rattle.sheet.proofs.laws.raw.append.Given as goal

abbrev pub invariant-loop-raw : goal.invariant-loop-raw
invariant-loop-raw l =
    (vec_items l.to ≡ vec_items l.initial.to ++ map term_of (take l.raw-index l.terms))
    × (vec_len l.to ≡ vec_len l.initial.to + l.raw-index)
    × (vec_capacity l.to ≡ vec_capacity l.initial.to)
