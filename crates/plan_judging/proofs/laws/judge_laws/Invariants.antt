use Rattle.std.proofs.Common.{◌≡◌, ◌*◌, ◌≤◌, drop, take}
use Rattle.netlist.specs.Netlist.{term_count}
use Rattle.assembly.specs.Meaning.{laws_of}
use Rattle.plan_judging.specs.Alone.{judge_laws}
use Rattle.plan_judging.proofs.laws.judge_laws.Given as goal

-- the laws so far have passed, so the rest decides
abbrev pub invariant-loop-k : goal.invariant-loop-k
invariant-loop-k g l =
    let laws = laws_of (g.A.Assembly.meaning l.part) in
    record {
      judged : judge_laws l.variables l.k (drop l.k laws) ≡ judge_laws l.variables 0 laws;
      counted : l.terms ≡ term_count (take l.k laws);
      few : l.terms ≤ 8 * l.k;
    }
