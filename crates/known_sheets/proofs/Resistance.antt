-- Readings of the resistance, and of the empty sheet.
use Rattle.std.proofs.Common.{◌≡◌, ℕ, ◌<◌, List, [], ◌∷◌, ℤ, pos, negsuc, ◌+ℤ◌, ◌*ℤ◌, refl, arith}
use Rattle.quantity.specs.Integers.{integers}
use Rattle.netlist.specs.Netlist.{empty}
use Rattle.network.specs.Walks.{Drawn, read}
use Rattle.readings.specs.Readings.{EquationsHold}
use Rattle.checking.specs.declared.verdicts.Verdict.TheVariants.{Holds, Law}
use Rattle.checking.specs.Potentials.{Filling, GroundedNodes}
use Rattle.known_sheets.specs.Cases.{IsChecked, steady}
use Rattle.known_sheets.proofs.Answering.{below, nonzero, answers, agree}
use Rattle.known_sheets.proofs.Texts.{resistance_drawn}

abbrev zeros : List ℤ
zeros = pos 0 ∷ pos 0 ∷ pos 0 ∷ pos 0 ∷ []

abbrev potentials : List ℤ
potentials = pos 0 ∷ pos 0 ∷ []

drawn : Drawn resistance_drawn.rows 2
drawn = below 2 _ ((omega arith, omega arith), ((omega arith, omega arith), tt))

only : (q : ℕ → ℤ) → EquationsHold integers resistance_drawn (steady integers zeros) q → GroundedNodes integers resistance_drawn zeros q → (n : ℕ) → n < 2 → q n ≡ read integers potentials n
only q holds grounded =
    let over_0 : pos 1 *ℤ pos 0 +ℤ (negsuc 0 *ℤ q 0 +ℤ (pos 1 *ℤ q 1 +ℤ pos 0)) ≡ pos 0 = holds 4 (omega arith) in
    let over_1 : pos 1 *ℤ pos 0 +ℤ (negsuc 0 *ℤ q 1 +ℤ pos 0) ≡ pos 0 = holds 5 (omega arith) in
    below 2 _ (grind arith, (grind arith, tt))

filling : Filling integers resistance_drawn (steady integers zeros) potentials
filling = record {
  fits = below 6 _ (refl, (refl, (refl, (refl, (refl, (refl, tt))))));
  grounded = below 2 _ ((λ low. refl), ((λ low. refl), tt));
  only = only;
}

pub resistance_holds : IsChecked integers resistance_drawn zeros Holds potentials
resistance_holds = answers integers resistance_drawn zeros Holds potentials refl refl
    (agree integers resistance_drawn (steady integers zeros) potentials drawn (below 2 _ (refl, (refl, tt))) (below 2 _ (refl, (refl, tt))) (below 2 _ (refl, (refl, tt))))
    filling

abbrev uneven : List ℤ
uneven = pos 0 ∷ pos 5 ∷ pos 0 ∷ pos 0 ∷ []

pub resistance_law : IsChecked integers resistance_drawn uneven (Law 0) potentials
resistance_law = answers integers resistance_drawn uneven (Law 0) potentials refl refl
    (record { within = omega arith; before = λ k l. absurd (omega arith); here = nonzero (negsuc 4) refl })
    refl

pub nothing_holds : IsChecked integers empty [] Holds []
nothing_holds = answers integers empty [] Holds [] refl refl
    (agree integers empty (steady integers []) [] (λ j l. absurd (omega arith)) (λ k l. absurd (omega arith)) (λ u l. absurd (omega arith)) (λ j l. absurd (omega arith)))
    (record { fits = λ i l. absurd (omega arith); grounded = λ n l low. absurd (omega arith); only = λ q holds grounded n l. absurd (omega arith) })
