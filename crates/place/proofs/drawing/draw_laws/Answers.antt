use Rattle.std.proofs.Common.{◌≡◌, ℕ, List, [], ◌∷◌, length, Some, Option, ap, ◌∙◌, arith}
use Rattle.std.specs.List.{slice_get}
use Rattle.std.specs.Result.{is_ok}
use Rattle.std.proofs.lemmas.List.{length-map, take_all}
use Rattle.std.proofs.lemmas.Option.{slice_get-get_or}
use Rattle.draft.specs.declared.refusals.DraftRefusal.{DraftRefusal}
use Rattle.netlist.specs.declared.terms.RawTerm.{RawTerm}
use Rattle.netlist.specs.Limits.{most_terms_of_law}
use Rattle.netlist.specs.Netlist.{with_laws}
use Rattle.draft.specs.Rules.{judge_law}
use Rattle.refusal.specs.Tests.{answer, after}
use Rattle.assembly.specs.Meaning.{laws_of, terms_of}
use Rattle.plan_judging.specs.Terms.{counted_on, law_from}
use Rattle.plan_judging.proofs.Gathered.{few}
use Rattle.place.proofs.Drawn.{law_more, next_law}
use Rattle.place.proofs.drawing.draw_laws.Goals as goal

pub unwrap-requires : goal.unwrap-requires
unwrap-requires g c =
    let m = g.A.Assembly.meaning c.args.part.now in
    let b = c.loop-k.draft in
    let k = c.loop-k.k in
    let f = law_from c.args.from in
    let law = terms_of m k in
    let at : slice_get (laws_of m) k ≡ Some law = slice_get-get_or (laws_of m) k [] (omega arith) in
    let same = λ (ts : List (RawTerm ℕ)). length-map ts (counted_on c.args.from) in
    let all = c.as_slice.ensures ∙ c.of-law.ensures ∙ take_all most_terms_of_law (f law) (omega (arith, same law, few m k c.requires.proper)) in
    let judged = (λ i. judge_law (c.loop-k.invariant i) (all i)) ∙ next_law c.args.draft.now f same (laws_of m) k law at c.requires.passed (omega arith) c.requires.terms in
    ap is_ok (c.law.ensures.answer ∙ ap (λ (o : Option DraftRefusal). answer o (length b.laws)) judged)

pub loop-k-preserved : goal.loop-k-preserved
loop-k-preserved g c =
    let m = g.A.Assembly.meaning c.args.part.now in
    let b = c.loop-k.draft in
    let k = c.loop-k.k in
    let f = law_from c.args.from in
    let law = terms_of m k in
    let at : slice_get (laws_of m) k ≡ Some law = slice_get-get_or (laws_of m) k [] (omega arith) in
    let same = λ (ts : List (RawTerm ℕ)). length-map ts (counted_on c.args.from) in
    let all = c.as_slice.ensures ∙ c.of-law.ensures ∙ take_all most_terms_of_law (f law) (omega (arith, same law, few m k c.requires.proper)) in
    let judged = (λ i. judge_law (c.loop-k.invariant i) (all i)) ∙ next_law c.args.draft.now f same (laws_of m) k law at c.requires.passed (omega arith) c.requires.terms in
    c.law.ensures.netlist
    ∙ ap (λ (o : Option DraftRefusal). after o b (with_laws b (c.as_slice.result.now ∷ []))) judged
    ∙ (λ i. with_laws (c.loop-k.invariant i) (all i ∷ []))
    ∙ law_more c.args.draft.now f same (laws_of m) k law at
