use Rattle.std.proofs.Common.{◌≡◌, ℕ, Some, sym, ap, ◌∙◌}
use Rattle.std.specs.List.{slice_get}
use Rattle.std.proofs.lemmas.Result.{err_from_is_err_and}
use Rattle.draft.specs.Rules.{domain_of}
use Rattle.refusal.specs.Tests.{first_of}
use Rattle.refusal.proofs.Tables.{passed_over, stopped_at}
use Rattle.assembly.specs.Meaning.{domains_of}
use Rattle.place.specs.Place.{domain_tests}
use Rattle.place.proofs.Plans.{ends_left}
use Rattle.place.proofs.ends.judge_ends.Goals as goal

pub returns-in_err-judge_domain-clause-judged : goal.returns-in_err-judge_domain-clause-judged
returns-in_err-judge_domain-clause-judged g c =
    let m = g.A.Assembly.meaning c.args.part.now in
    let ds = c.args.draft.now.domains in
    let d = c.unwrap-first_end.result in
    let e = c.unwrap-second_end.result in
    let h : slice_get (domains_of m) 0 ≡ Some d = cc in
    let k : slice_get (domains_of m) 1 ≡ Some e = cc in
    let one = c.in_ok-first.ensures in
    let other = c.in_ok-second.ensures in
    let first_end = domain_tests (domain_of ds c.args.first) d 0 in
    let second_end = domain_tests (domain_of ds c.args.second) e 1 in
    let left = ends_left c.args.draft.now c.args.first c.args.second m d e c.size.ensures.proper h k one.0 other.0 in
    let first_told = λ (n : ℕ). first_of (domain_tests n d 0) in
    let p = err_from_is_err_and c.from_residual-in_err-judge_domain.result c.from_residual-in_err-judge_domain.ensures.1 in
    rw (p.1, p.2) (left ∙ stopped_at first_end second_end _ (ap first_told one.1 ∙ c.in_err-judge_domain.ensures))

pub returns-in_err-judge_domain-2-clause-judged : goal.returns-in_err-judge_domain-2-clause-judged
returns-in_err-judge_domain-2-clause-judged g c =
    let m = g.A.Assembly.meaning c.args.part.now in
    let ds = c.args.draft.now.domains in
    let d = c.unwrap-first_end.result in
    let e = c.unwrap-second_end.result in
    let h : slice_get (domains_of m) 0 ≡ Some d = cc in
    let k : slice_get (domains_of m) 1 ≡ Some e = cc in
    let one = c.in_ok-first.ensures in
    let other = c.in_ok-second.ensures in
    let first_end = domain_tests (domain_of ds c.args.first) d 0 in
    let second_end = domain_tests (domain_of ds c.args.second) e 1 in
    let left = ends_left c.args.draft.now c.args.first c.args.second m d e c.size.ensures.proper h k one.0 other.0 in
    let first_told = λ (n : ℕ). first_of (domain_tests n d 0) in
    let second_told = λ (n : ℕ). first_of (domain_tests n e 1) in
    let p = err_from_is_err_and c.from_residual-in_err-judge_domain-2.result c.from_residual-in_err-judge_domain-2.ensures.1 in
    rw (p.1, p.2) (left ∙ passed_over first_end second_end (ap first_told one.1 ∙ c.in_ok-judge_domain.ensures) ∙ ap second_told other.1 ∙ c.in_err-judge_domain-2.ensures)

pub returns-clause-judged : goal.returns-clause-judged
returns-clause-judged g c =
    let m = g.A.Assembly.meaning c.args.part.now in
    let ds = c.args.draft.now.domains in
    let d = c.unwrap-first_end.result in
    let e = c.unwrap-second_end.result in
    let h : slice_get (domains_of m) 0 ≡ Some d = cc in
    let k : slice_get (domains_of m) 1 ≡ Some e = cc in
    let one = c.in_ok-first.ensures in
    let other = c.in_ok-second.ensures in
    let first_end = domain_tests (domain_of ds c.args.first) d 0 in
    let second_end = domain_tests (domain_of ds c.args.second) e 1 in
    let left = ends_left c.args.draft.now c.args.first c.args.second m d e c.size.ensures.proper h k one.0 other.0 in
    let first_told = λ (n : ℕ). first_of (domain_tests n d 0) in
    let second_told = λ (n : ℕ). first_of (domain_tests n e 1) in
    let judged = left ∙ passed_over first_end second_end (ap first_told one.1 ∙ c.in_ok-judge_domain.ensures) ∙ ap second_told other.1 ∙ c.in_ok-judge_domain-2.ensures in
    (judged, sym c.size.ensures.value ∙ c.in-Some.is)
