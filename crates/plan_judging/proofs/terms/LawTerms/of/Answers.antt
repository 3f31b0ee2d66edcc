use Rattle.std.proofs.Common.{◌+◌, ◌++◌, ◌∷◌, [], sym, ap, ◌∙◌, arith, FitsSigned, w64}
use Rattle.std.specs.Option.{option_map}
use Rattle.std.proofs.lemmas.List.{length-set, take_more_set}
use Rattle.std.proofs.lemmas.Option.{slice_get_within, slice_get-map}
use Rattle.std.proofs.lemmas.Int.{to_z-of_z}
use Rattle.assembly.specs.Meaning.{terms_of}
use Rattle.plan_judging.specs.Terms.{counted_on, law_from}
use Rattle.plan_judging.proofs.Turns.{take_place}
use Rattle.plan_judging.proofs.terms.LawTerms.of.Goals as goal

pub loop-t-preserved : goal.loop-t-preserved
loop-t-preserved g c =
    let law = terms_of (g.A.Assembly.meaning c.args.part.now) c.args.k in
    let term = c.in-Some.term in
    let fits : FitsSigned w64 term.coefficient = search in
    let back = to_z-of_z w64 term.coefficient fits in
    let inv = c.loop-t.invariant in
    let at = sym c.term.ensures ∙ c.in-Some.is in
    let moved = slice_get-map (counted_on c.args.from) law c.loop-t.t ∙ ap (option_map (counted_on c.args.from)) at in
    record {
      within = omega (arith, slice_get_within law c.loop-t.t _ at);
      gathered =
          take_more_set c.loop-t.terms c.loop-t.t _ (omega (arith, inv.long))
          ∙ (λ i. inv.gathered i ++ record { coefficient = back i; order = term.order; variable = c.from.ensures i + term.variable } ∷ [])
          ∙ sym (take_place (law_from c.args.from law) c.loop-t.t (counted_on c.args.from term) moved);
      long = length-set c.loop-t.terms c.loop-t.t _ ∙ inv.long;
    }
