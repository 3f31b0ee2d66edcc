use Rattle.agreement.proofs.Parts.{both_or_neither}
use Rattle.agreement.proofs.requests.accept_both.Goals as goal

pub returns : goal.returns
returns g c =
    let first = c.accept-one.ensures.agreement in
    let second = c.accept-other.ensures.agreement in
    record {
      first = first;
      first_same = c.accept-one.ensures.same;
      second = second;
      second_same = c.accept-other.ensures.same;
      together = both_or_neither first second;
    }
