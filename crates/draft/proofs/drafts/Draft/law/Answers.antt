use Rattle.std.proofs.Common.{cond, [], ◌∷◌, length, sym, ap, ◌∙◌, Ok}
use Rattle.std.proofs.lemmas.Bool.{true≢false}
use Rattle.netlist.specs.Netlist.{with_laws}
use Rattle.refusal.specs.Tests.{answer, after}
use Rattle.sheet.specs.Steps.{raw_law_fits}
use Rattle.draft.specs.Rules.{judge_law}
use Rattle.draft.proofs.Fitting.{law_passed, law_fitting, number_given, none_given, told_refusal}
use Rattle.draft.proofs.drafts.Draft.law.Goals as goal

-- what the tables do not take, a judge refuses
pub unwrap_err-requires : goal.unwrap_err-requires
unwrap_err-requires c =
    let b = c.args.self.now in
    let ts = c.args.terms.now in
    let misfit = none_given (raw_law_fits b ts) (length b.laws) (rw c.self.view_is at c.in-None.ensures.answer) in
    let kept = (rw c.self.view_is at c.in-None.ensures.netlist) ∙ ap (λ fits. cond fits (with_laws b (ts ∷ [])) b) misfit in
    let same = ap (λ n. judge_law n ts) (sym kept) in
    told_refusal _ c.judge_law.result (λ passed. true≢false (sym (law_passed b ts (same ∙ passed)) ∙ misfit)) c.judge_law.ensures

pub returns-in-Some-clause-answer : goal.returns-in-Some-clause-answer
returns-in-Some-clause-answer c =
    let b = c.args.self.now in
    let ts = c.args.terms.now in
    let given = number_given (raw_law_fits b ts) (length b.laws) _ (rw c.self.view_is at c.in-Some.ensures.answer) in
    ap Ok given.1 ∙ ap (λ judged. answer judged (length b.laws)) (sym (law_fitting b ts given.0))

pub returns-in-Some-clause-netlist : goal.returns-in-Some-clause-netlist
returns-in-Some-clause-netlist c =
    let b = c.args.self.now in
    let ts = c.args.terms.now in
    let given = number_given (raw_law_fits b ts) (length b.laws) _ (rw c.self.view_is at c.in-Some.ensures.answer) in
    (rw c.self.view_is at c.in-Some.ensures.netlist)
    ∙ ap (λ fits. cond fits (with_laws b (ts ∷ [])) b) given.0
    ∙ ap (λ judged. after judged b (with_laws b (ts ∷ []))) (sym (law_fitting b ts given.0))
