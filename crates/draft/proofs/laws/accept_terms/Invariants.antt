use Rattle.std.proofs.Common.{◌≡◌, ◌+◌, ◌-◌, map, take, drop, length, replicate}
use Rattle.netlist.specs.Limits.{most_terms_of_law}
use Rattle.draft.specs.Judging.{no_term}
use Rattle.netlist.specs.Netlist.{term_of}
use Rattle.draft.specs.Rules.{table_terms}
use Rattle.refusal.specs.Tests.{first_of}
use Rattle.draft.proofs.laws.accept_terms.Given as goal

-- the terms so far have passed and are in their places, so the rest decides
abbrev pub invariant-loop-i : goal.invariant-loop-i
invariant-loop-i l = record {
  judged : first_of (table_terms l.variables (l.i + 1) (drop l.i l.terms)) ≡ first_of (table_terms l.variables 1 l.terms);
  accepted : take l.i l.law ≡ map term_of (take l.i l.terms);
  rest : drop l.i l.law ≡ replicate (most_terms_of_law - l.i) no_term;
  long : length l.law ≡ length l.initial.law;
}
