-- Readings of the triangle.
use Rattle.std.proofs.Common.{◌≡◌, ℕ, ◌+◌, ◌<◌, List, [], ◌∷◌, replicate, ℤ, pos, negsuc, ◌+ℤ◌, ◌*ℤ◌, refl, arith}
use Rattle.quantity.specs.Integers.{integers}
use Rattle.network.specs.Flows.{NodesKeep}
use Rattle.network.specs.Walks.{Network, forward, backward, Drawn, Lowest, Refuted, network_of, read}
use Rattle.network.proofs.Refuting.{refuted_from}
use Rattle.network.proofs.Walking.{potentials_close_walks}
use Rattle.readings.specs.Agreement.{with_earth}
use Rattle.readings.specs.Readings.{EquationsHold}
use Rattle.checking.specs.declared.verdicts.Verdict.TheVariants.{Holds, Node, Row}
use Rattle.checking.specs.Potentials.{Filling, GroundedNodes}
use Rattle.known_sheets.specs.Cases.{IsChecked, steady}
use Rattle.known_sheets.proofs.Answering.{below, nonzero, answers, agree, first_is_lowest}
use Rattle.known_sheets.proofs.Texts.{triangle_drawn}

-- across 3, 4 and x
abbrev values : ℤ → List ℤ
values x = pos 1 ∷ pos 3 ∷ pos 1 ∷ pos 4 ∷ negsuc 0 ∷ x ∷ []

abbrev potentials : List ℤ
potentials = pos 0 ∷ negsuc 2 ∷ negsuc 6 ∷ []

abbrev R : ℤ → Network ℤ
R x = network_of integers triangle_drawn.rows (values x)

drawn : Drawn triangle_drawn.rows 3
drawn = below 3 _ ((omega arith, omega arith), ((omega arith, omega arith), ((omega arith, omega arith), tt)))

keeps : (x : ℤ) → NodesKeep integers triangle_drawn.rows (values x) 3
keeps x = below 3 _ (refl, (refl, (refl, tt)))

lowest : Lowest (R (pos 7)) 3 1
lowest = first_is_lowest integers (R (pos 7)) 3 (below 3 _ ((omega arith, omega arith), ((omega arith, omega arith), ((omega arith, omega arith), tt))))

only : (q : ℕ → ℤ) → EquationsHold integers triangle_drawn (steady integers (values (pos 7))) q → GroundedNodes integers triangle_drawn (values (pos 7)) q → (n : ℕ) → n < 3 → q n ≡ read integers potentials n
only q holds grounded =
    let first : q 0 ≡ pos 0 = grounded 0 (omega arith) lowest in
    let over_0 : pos 1 *ℤ pos 3 +ℤ (negsuc 0 *ℤ q 0 +ℤ (pos 1 *ℤ q 1 +ℤ pos 0)) ≡ pos 0 = holds 3 (omega arith) in
    let over_2 : pos 1 *ℤ pos 7 +ℤ (negsuc 0 *ℤ q 0 +ℤ (pos 1 *ℤ q 2 +ℤ pos 0)) ≡ pos 0 = holds 5 (omega arith) in
    below 3 _ (first, (grind arith, (grind arith, tt)))

filling : Filling integers triangle_drawn (steady integers (values (pos 7))) potentials
filling = record {
  fits = below 6 _ (refl, (refl, (refl, (refl, (refl, (refl, tt))))));
  grounded = below 3 (λ n. Lowest (R (pos 7)) 3 (n + 1) → read integers potentials n ≡ pos 0) (
    (λ low. refl),
    (
      (λ low. absurd (omega (arith, low 1 (backward 0 ∷ []) (omega arith, refl, refl)))),
      (
        (λ low. absurd (omega (arith, low 1 (backward 2 ∷ []) (omega arith, refl, refl)))),
        tt,
      ),
    ),
  );
  only = only;
}

pub triangle_holds : IsChecked integers triangle_drawn (values (pos 7)) Holds potentials
triangle_holds = answers integers triangle_drawn (values (pos 7)) Holds potentials refl refl
    (agree integers triangle_drawn (steady integers (values (pos 7))) potentials drawn (λ k l. absurd (omega arith)) (keeps (pos 7)) (below 3 _ (refl, (refl, (refl, tt)))))
    filling

refuted : Refuted integers (R (pos 8)) 3 2
refuted = refuted_from integers (R (pos 8)) _ _ (omega arith)
    (potentials_close_walks integers (R (pos 8)) 2 (with_earth integers (read integers potentials)) (below 2 _ (refl, (refl, tt))))
    ((1, forward 0 ∷ forward 1 ∷ backward 2 ∷ [], (omega arith, refl, (omega arith, refl, (omega arith, refl, refl))), nonzero (negsuc 0) refl))

pub triangle_row : IsChecked integers triangle_drawn (values (pos 8)) (Row 2) (replicate 3 (pos 0))
triangle_row = answers integers triangle_drawn (values (pos 8)) (Row 2) (replicate 3 (pos 0)) refl refl
    ((λ k l. absurd (omega arith)), keeps (pos 8), refuted)
    refl

pub triangle_node : (x y z : ℤ) → IsChecked integers triangle_drawn (pos 1 ∷ x ∷ pos 1 ∷ y ∷ pos 1 ∷ z ∷ []) (Node 0) (replicate 3 (pos 0))
triangle_node x y z = answers integers triangle_drawn (pos 1 ∷ x ∷ pos 1 ∷ y ∷ pos 1 ∷ z ∷ []) (Node 0) (replicate 3 (pos 0)) refl refl
    ((λ k l. absurd (omega arith)), record { within = omega arith; before = λ u l. absurd (omega arith); here = nonzero (pos 2) refl })
    refl
