-- Readings of the loop.
use Rattle.std.proofs.Common.{List, [], ◌∷◌, ℤ, pos, refl, arith}
use Rattle.quantity.specs.Integers.{integers}
use Rattle.network.specs.Flows.{NodesKeep}
use Rattle.network.specs.Walks.{Network, forward, Drawn, Lowest, Refuted, network_of}
use Rattle.network.proofs.Refuting.{refuted_from}
use Rattle.network.proofs.Walking.{potentials_close_walks}
use Rattle.checking.specs.declared.verdicts.Verdict.TheVariants.{Holds, Row}
use Rattle.checking.specs.Potentials.{Filling}
use Rattle.known_sheets.specs.Cases.{IsChecked, steady}
use Rattle.known_sheets.proofs.Answering.{below, nonzero, answers, agree, first_is_lowest}
use Rattle.known_sheets.proofs.Texts.{loop_drawn}

abbrev values : ℤ → List ℤ
values x = pos 9 ∷ x ∷ []

abbrev potentials : List ℤ
potentials = pos 0 ∷ []

abbrev R : ℤ → Network ℤ
R x = network_of integers loop_drawn.rows (values x)

drawn : Drawn loop_drawn.rows 1
drawn = below 1 _ ((omega arith, omega arith), tt)

keeps : (x : ℤ) → NodesKeep integers loop_drawn.rows (values x) 1
keeps x = below 1 _ (refl, tt)

lowest : Lowest (R (pos 0)) 1 1
lowest = first_is_lowest integers (R (pos 0)) 1 (below 1 _ ((omega arith, omega arith), tt))

filling : Filling integers loop_drawn (steady integers (values (pos 0))) potentials
filling = record {
  fits = below 2 _ (refl, (refl, tt));
  grounded = below 1 _ ((λ low. refl), tt);
  only = λ q holds grounded. below 1 _ (grounded 0 (omega arith) lowest, tt);
}

pub loop_holds : IsChecked integers loop_drawn (values (pos 0)) Holds potentials
loop_holds = answers integers loop_drawn (values (pos 0)) Holds potentials refl refl
    (agree integers loop_drawn (steady integers (values (pos 0))) potentials drawn (λ k l. absurd (omega arith)) (keeps (pos 0)) (below 1 _ (refl, tt)))
    filling

refuted : Refuted integers (R (pos 1)) 1 0
refuted = refuted_from integers (R (pos 1)) _ _ (omega arith)
    (potentials_close_walks integers (R (pos 1)) 0 (λ v. pos 0) (λ j l. absurd (omega arith)))
    ((1, forward 0 ∷ [], (omega arith, refl, refl), nonzero (pos 1) refl))

pub loop_row : IsChecked integers loop_drawn (values (pos 1)) (Row 0) potentials
loop_row = answers integers loop_drawn (values (pos 1)) (Row 0) potentials refl refl
    ((λ k l. absurd (omega arith)), keeps (pos 1), refuted)
    refl
