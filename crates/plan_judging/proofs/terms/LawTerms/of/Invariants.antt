use Rattle.std.proofs.Common.{◌≡◌, ◌≤◌, length, take}
use Rattle.assembly.specs.Meaning.{terms_of}
use Rattle.plan_judging.specs.Terms.{law_from}
use Rattle.plan_judging.proofs.terms.LawTerms.of.Given as goal

-- the first places hold the first terms
abbrev pub invariant-loop-t : goal.invariant-loop-t
invariant-loop-t g l =
    let law = terms_of (g.A.Assembly.meaning l.part) l.k in
    record { within : l.t ≤ length law; gathered : take l.t l.terms ≡ take l.t (law_from l.from law); long : length l.terms ≡ 8 }
