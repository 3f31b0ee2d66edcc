use Rattle.std.proofs.Common.{refl, ◌∙◌}
use Rattle.reading_sums.specs.Given.{given}
use Rattle.agreement.proofs.Parts.{accepted}
use Rattle.agreement.proofs.accepting.accept.Goals as goal

pub returns : goal.returns
returns g c =
    let listed = c.equations-listed.ensures in
    record {
      agreement = accepted g.K.Quantity.group (given c.args.readings) c.args.buffers.now
          _
          (record { sheet = c.issue-sheet.result; listed = c.equations-listed.result; checked = c.check-checked.result })
          _
          (c.issue-sheet.ensures.netlist ∙ c.run.ensures)
          c.issue-sheet.ensures.sound listed.answer listed.terms listed.spans listed.placed c.check-checked.ensures.checked;
      same = (refl, refl, refl);
      sound = c.issue-sheet.ensures.sound;
      exact = c.check-checked.ensures.exact;
    }
