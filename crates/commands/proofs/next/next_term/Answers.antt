use Rattle.std.proofs.Common.{Some, ◌∙◌, w64, to_z, of_z}
use Rattle.commands.proofs.Stepwise.{coefficient_read, term_read, widened}
use Rattle.commands.proofs.next.next_term.Goals as goal

pub returns-clause-term : goal.returns-clause-term
returns-clause-term c =
    let value = to_z w64 (of_z w64 c.from-coefficient.result) in
    let first = coefficient_read _ _ (Some c.in_ok-field.field) value c.in_ok-field.ensures.steps (λ short. widened c.coefficient.result c.from-coefficient.result c.coefficient.type_inv c.from-coefficient.ensures ∙ c.coefficient.ensures.exact short) in
    term_read _ _ _ _ value _ _ first c.next_number-order.ensures c.next_size-variable.ensures
