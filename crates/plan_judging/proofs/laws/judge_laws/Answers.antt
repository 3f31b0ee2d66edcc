use Rattle.std.proofs.Common.{◌≡◌, ℕ, List, length, Some, sym, ap, ◌∙◌, arith}
use Rattle.std.specs.List.{slice_get}
use Rattle.std.proofs.lemmas.Option.{slice_get-get_or}
use Rattle.netlist.specs.declared.terms.RawTerm.{RawTerm}
use Rattle.draft.specs.Rules.{table_law}
use Rattle.refusal.specs.Tests.{first_of}
use Rattle.assembly.specs.Meaning.{laws_of, terms_of}
use Rattle.plan_judging.proofs.Gathered.{count_next, few, gathered_law}
use Rattle.plan_judging.proofs.Turns.{law_passes, law_stops}
use Rattle.plan_judging.proofs.laws.judge_laws.Goals as goal

pub returns-in-Err : goal.returns-in-Err
returns-in-Err g c =
    let m = g.A.Assembly.meaning c.args.part.now in
    let laws = laws_of m in
    let k = c.loop-k.k in
    let law = terms_of m k in
    let at : slice_get laws k ≡ Some law = slice_get-get_or laws k _ (omega arith) in
    let all = c.as_slice.ensures ∙ c.of-law.ensures ∙ gathered_law m k c.requires.proper in
    sym c.loop-k.invariant.judged
    ∙ law_stops c.args.variables laws k law at c.in-Err.inner (ap (λ (ts : List (RawTerm ℕ)). first_of (table_law c.args.variables ts)) (sym all) ∙ c.in-Err.ensures)

pub loop-k-preserved : goal.loop-k-preserved
loop-k-preserved g c =
    let m = g.A.Assembly.meaning c.args.part.now in
    let laws = laws_of m in
    let k = c.loop-k.k in
    let law = terms_of m k in
    let inv = c.loop-k.invariant in
    let at : slice_get laws k ≡ Some law = slice_get-get_or laws k _ (omega arith) in
    let all = c.as_slice.ensures ∙ c.of-law.ensures ∙ gathered_law m k c.requires.proper in
    let again = c.as_slice-in-loop-k.ensures ∙ c.of-law.ensures ∙ gathered_law m k c.requires.proper in
    let long = ap length again in
    let read = ap (λ (ts : List (RawTerm ℕ)). first_of (table_law c.args.variables ts)) (sym all) ∙ c.in_default.ensures.0 in
    record {
      judged = law_passes c.args.variables laws k law at read ∙ inv.judged;
      counted = omega (arith, inv.counted, long, count_next laws k law at);
      few = omega (arith, long, inv.few, few m k c.requires.proper);
    }
