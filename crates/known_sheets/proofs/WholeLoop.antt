-- Readings of the loop, as whole numbers.
use Rattle.std.proofs.Common.{List, [], ◌∷◌, ℤ, pos, refl, map, arith}
use Rattle.std.specs.Int.{int_wrap}
use Rattle.quantity.specs.Wholes.{wholes, whole}
use Rattle.quantity.specs.declared.numbers.Whole.{Whole}
use Rattle.network.specs.Flows.{NodesKeep}
use Rattle.network.specs.Walks.{Network, forward, Drawn, Lowest, Refuted, network_of}
use Rattle.network.proofs.Refuting.{refuted_from}
use Rattle.network.proofs.Walking.{potentials_close_walks}
use Rattle.checking.specs.declared.verdicts.Verdict.TheVariants.{Holds, Row}
use Rattle.checking.specs.Potentials.{Filling}
use Rattle.known_sheets.specs.Cases.{IsChecked, steady}
use Rattle.known_sheets.proofs.Answering.{below, nonzero_whole, answers, agree, first_is_lowest}
use Rattle.known_sheets.proofs.Texts.{loop_drawn}

abbrev values : ℤ → List Whole
values x = map whole (pos 9 ∷ x ∷ [])

abbrev potentials : List Whole
potentials = map whole (pos 0 ∷ [])

abbrev R : ℤ → Network Whole
R x = network_of wholes loop_drawn.rows (values x)

drawn : Drawn loop_drawn.rows 1
drawn = below 1 _ ((omega arith, omega arith), tt)

keeps : (x : ℤ) → NodesKeep wholes loop_drawn.rows (values x) 1
unfolding int_wrap
keeps x = below 1 _ (refl, tt)

lowest : Lowest (R (pos 0)) 1 1
lowest = first_is_lowest wholes (R (pos 0)) 1 (below 1 _ ((omega arith, omega arith), tt))

filling : Filling wholes loop_drawn (steady wholes (values (pos 0))) potentials
unfolding int_wrap
filling = record {
  fits = below 2 _ (refl, (refl, tt));
  grounded = below 1 _ ((λ low. refl), tt);
  only = λ q holds grounded. below 1 _ (grounded 0 (omega arith) lowest, tt);
}

pub loop_holds : IsChecked wholes loop_drawn (values (pos 0)) Holds potentials
unfolding int_wrap
loop_holds = answers wholes loop_drawn (values (pos 0)) Holds potentials refl refl
    (agree wholes loop_drawn (steady wholes (values (pos 0))) potentials drawn (λ k l. absurd (omega arith)) (keeps (pos 0)) (below 1 _ (refl, tt)))
    filling

refuted : Refuted wholes (R (pos 1)) 1 0
unfolding int_wrap
refuted = refuted_from wholes (R (pos 1)) _ _ (omega arith)
    (potentials_close_walks wholes (R (pos 1)) 0 (λ v. wholes.zero) (λ j l. absurd (omega arith)))
    ((1, forward 0 ∷ [], (omega arith, refl, refl), nonzero_whole (pos 1) refl))

pub loop_row : IsChecked wholes loop_drawn (values (pos 1)) (Row 0) potentials
unfolding int_wrap
loop_row = answers wholes loop_drawn (values (pos 1)) (Row 0) potentials refl refl
    ((λ k l. absurd (omega arith)), keeps (pos 1), refuted)
    refl
