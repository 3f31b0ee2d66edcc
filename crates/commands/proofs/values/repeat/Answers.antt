use Rattle.text.specs.Grammar.{repeat_kinds}
use Rattle.commands.proofs.Readers.{left_all, number_at, coefficient_at}
use Rattle.commands.proofs.Stepwise.{kept}
use Rattle.commands.proofs.values.repeat.Goals as goal

pub returns : goal.returns
returns c = λ gs here kinds.
    let v₀ = number_at gs 0 _ _ _ _ c.next_number-domain.ensures (left_all gs repeat_kinds _ here kinds) in
    let v₁ = coefficient_at gs 1 _ _ _ _ c.next_coefficient-c1.ensures v₀.1 in
    let v₂ = coefficient_at gs 2 _ _ _ _ c.next_coefficient-c2.ensures v₁.1 in
    let v₃ = coefficient_at gs 3 _ _ _ _ c.next_coefficient-c3.ensures v₂.1 in
    let v₄ = coefficient_at gs 4 _ _ _ _ c.next_coefficient-c4.ensures v₃.1 in
    let v₅ = number_at gs 5 _ _ _ _ c.next_size-times.ensures v₄.1 in
    let v₆ = number_at gs 6 _ _ _ _ c.next_size-first.ensures v₅.1 in
    let v₇ = number_at gs 7 _ _ _ _ c.next_size-second.ensures v₆.1 in
    cc (v₀.0, v₁.0, kept c.next_coefficient-c1.result c.next_coefficient-c1.type_inv, v₂.0, kept c.next_coefficient-c2.result c.next_coefficient-c2.type_inv, v₃.0, kept c.next_coefficient-c3.result c.next_coefficient-c3.type_inv, v₄.0, kept c.next_coefficient-c4.result c.next_coefficient-c4.type_inv, v₅.0, v₆.0, v₇.0)
