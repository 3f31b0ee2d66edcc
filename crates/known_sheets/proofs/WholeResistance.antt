-- Readings of the resistance, and of the empty sheet, as whole numbers.
use Rattle.std.proofs.Common.{◌≡◌, ℕ, ◌<◌, List, [], ◌∷◌, pos, negsuc, refl, ap, ◌∙◌, map, arith}
use Rattle.std.specs.Int.{int_wrap}
use Rattle.netlist.specs.declared.rows.Row.TheVariants.{Branch, Earth}
use Rattle.quantity.specs.Wholes.{wholes, whole}
use Rattle.quantity.specs.declared.numbers.Whole.{Whole}
use Rattle.netlist.specs.Netlist.{empty}
use Rattle.network.specs.Walks.{Drawn, read}
use Rattle.readings.specs.Readings.{EquationsHold}
use Rattle.checking.specs.declared.verdicts.Verdict.TheVariants.{Holds, Law}
use Rattle.checking.specs.Potentials.{Filling, GroundedNodes}
use Rattle.known_sheets.specs.Cases.{IsChecked, steady}
use Rattle.known_sheets.proofs.Answering.{start_potential, below, nonzero_whole, answers, agree}
use Rattle.known_sheets.proofs.Texts.{resistance_drawn}

abbrev zeros : List Whole
zeros = map whole (pos 0 ∷ pos 0 ∷ pos 0 ∷ pos 0 ∷ [])

abbrev potentials : List Whole
potentials = map whole (pos 0 ∷ pos 0 ∷ [])

drawn : Drawn resistance_drawn.rows 2
drawn = below 2 _ ((omega arith, omega arith), ((omega arith, omega arith), tt))

only : (q : ℕ → Whole) → EquationsHold wholes resistance_drawn (steady wholes zeros) q → GroundedNodes wholes resistance_drawn zeros q → (n : ℕ) → n < 2 → q n ≡ read wholes potentials n
unfolding int_wrap
only q holds grounded =
    let second : q 1 ≡ wholes.zero = start_potential wholes 4 (steady wholes zeros) q (Earth 2 3 1) (omega arith) (holds 5 (omega arith)) in
    let first : q 0 ≡ wholes.zero = start_potential wholes 4 (steady wholes zeros) q (Branch 0 1 0 1) (omega arith) (holds 4 (omega arith)) ∙ ap (λ u. wholes.sum u wholes.zero) second in
    below 2 (λ n. q n ≡ read wholes potentials n) (first, (second, tt))

filling : Filling wholes resistance_drawn (steady wholes zeros) potentials
unfolding int_wrap
filling = record {
  fits = below 6 _ (refl, (refl, (refl, (refl, (refl, (refl, tt))))));
  grounded = below 2 _ ((λ low. refl), ((λ low. refl), tt));
  only = only;
}

pub resistance_holds : IsChecked wholes resistance_drawn zeros Holds potentials
unfolding int_wrap
resistance_holds = answers wholes resistance_drawn zeros Holds potentials refl refl
    (agree wholes resistance_drawn (steady wholes zeros) potentials drawn (below 2 _ (refl, (refl, tt))) (below 2 _ (refl, (refl, tt))) (below 2 _ (refl, (refl, tt))))
    filling

abbrev uneven : List Whole
uneven = map whole (pos 0 ∷ pos 5 ∷ pos 0 ∷ pos 0 ∷ [])

pub resistance_law : IsChecked wholes resistance_drawn uneven (Law 0) potentials
unfolding int_wrap
resistance_law = answers wholes resistance_drawn uneven (Law 0) potentials refl refl
    (record { within = omega arith; before = λ k l. absurd (omega arith); here = nonzero_whole (negsuc 4) refl })
    refl

pub nothing_holds : IsChecked wholes empty [] Holds []
unfolding int_wrap
nothing_holds = answers wholes empty [] Holds [] refl refl
    (agree wholes empty (steady wholes []) [] (λ j l. absurd (omega arith)) (λ k l. absurd (omega arith)) (λ u l. absurd (omega arith)) (λ j l. absurd (omega arith)))
    (record { fits = λ i l. absurd (omega arith); grounded = λ n l low. absurd (omega arith); only = λ q holds grounded n l. absurd (omega arith) })
