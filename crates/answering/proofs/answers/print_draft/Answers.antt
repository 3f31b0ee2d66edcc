use Rattle.std.proofs.Common.{◌≡◌, ◌∙◌, length, None, subst, sym, rules}
use Rattle.netlist.specs.Sound.{Sound}
use Rattle.quantity.specs.Wholes.{wholes}
use Rattle.reading_sums.specs.Given.{given}
use Rattle.checking.specs.Checked.{judge_check}
use Rattle.answering.proofs.Fitting.{counts_fit, is_checked, same_verdict}
use Rattle.answering.proofs.answers.print_draft.Goals as goal

pub unwrap-verdict-requires : goal.unwrap-verdict-requires
unwrap-verdict-requires c =
    let b = c.args.draft in
    let r = given c.args.readings in
    let fits : judge_check b r (length c.args.potentials.now) ≡ None = counts_fit b r _ c.requires.values c.requires.rates c.requires.potentials in
    is_checked wholes b r _ _ c.accept-accepted.result.checked fits c.accept-accepted.ensures.agreement.verdict.checked

pub returns : goal.returns
returns c =
    let agreed = c.accept-accepted.ensures.agreement in
    let told = rw c.unwrap-verdict.ensures at agreed.verdict.checked in
    let filled = told.3 in
    let sound : Sound c.args.draft = subst Sound agreed.sheet c.accept-accepted.ensures.sound in
    let integers = c.accept-accepted.ensures.exact c.args.draft sound (given c.args.readings) c.requires.small_values c.requires.small_rates _ _ told.2 filled in
    let counted = told.1 ∙ c.requires.potentials in
    record {
      netlist = record { placed = agreed.readings.placed; potentials = agreed.readings.agree; redrawn = agreed.plant.agree };
      judged = record {
        is = told.2;
        only = λ v is. same_verdict _ v (sym c.unwrap-verdict.ensures ∙ agreed.verdict.only told.0 v is);
        redrawn = agreed.plant.verdicts _ c.unwrap-verdict.ensures;
        counted = search rules;
        filled = search rules;
        integers = search rules;
      };
      printed = rw agreed.sheet at c.in_ok-print_accepted.ensures;
    }
