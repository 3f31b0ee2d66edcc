use Rattle.std.proofs.Common.{◌≡◌, drop, map, take, length, []}
use Rattle.netlist.specs.Domains.{domain_number}
use Rattle.netlist.specs.Flags.{Marked}
use Rattle.netlist.specs.Netlist.{Netlist}
use Rattle.assembly.specs.Meaning.{domains_of, rows_of}
use Rattle.plan_judging.specs.Alone.{judge_rows}
use Rattle.plan_judging.proofs.rows.judge_rows.Given as goal

-- the rows so far have passed, and their variables have their flags up, so the rest decides
abbrev pub invariant-loop-k : goal.invariant-loop-k
invariant-loop-k g l =
    let m = g.A.Assembly.meaning l.part in
    let drawn : Netlist = record { domains = map domain_number (domains_of m); variables = length l.initial.taken; rows = take l.k (rows_of m); laws = [] } in
    let bare : Netlist = record { domains = map domain_number (domains_of m); variables = length l.initial.taken; rows = []; laws = [] } in
    record {
      judged : judge_rows drawn l.k (drop l.k (rows_of m)) ≡ judge_rows bare 0 (rows_of m);
      marked : Marked l.taken (take l.k (rows_of m));
      long : length l.taken ≡ length l.initial.taken;
    }
