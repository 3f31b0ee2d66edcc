-- Readings of the triangle, as whole numbers.
use Rattle.std.proofs.Common.{◌≡◌, ℕ, ◌+◌, ◌<◌, List, [], ◌∷◌, replicate, ℤ, pos, negsuc, refl, ap, ◌∙◌, map, arith}
use Rattle.std.specs.Int.{int_wrap}
use Rattle.quantity.specs.Group.{minus}
use Rattle.netlist.specs.declared.rows.Row.TheVariants.{Branch}
use Rattle.quantity.specs.Wholes.{wholes, whole}
use Rattle.quantity.specs.declared.numbers.Whole.{Whole}
use Rattle.network.specs.Flows.{NodesKeep}
use Rattle.network.specs.Walks.{Network, forward, backward, Drawn, Lowest, Refuted, network_of, read}
use Rattle.network.proofs.Refuting.{refuted_from}
use Rattle.network.proofs.Walking.{potentials_close_walks}
use Rattle.readings.specs.Agreement.{with_earth}
use Rattle.readings.specs.Readings.{EquationsHold}
use Rattle.checking.specs.declared.verdicts.Verdict.TheVariants.{Holds, Node, Row}
use Rattle.checking.specs.Potentials.{Filling, GroundedNodes}
use Rattle.known_sheets.specs.Cases.{IsChecked, steady}
use Rattle.known_sheets.proofs.Answering.{end_potential, below, nonzero_whole, answers, agree, first_is_lowest}
use Rattle.known_sheets.proofs.Texts.{triangle_drawn}

-- across 3, 4 and x
abbrev values : ℤ → List Whole
values x = map whole (pos 1 ∷ pos 3 ∷ pos 1 ∷ pos 4 ∷ negsuc 0 ∷ x ∷ [])

abbrev potentials : List Whole
potentials = map whole (pos 0 ∷ negsuc 2 ∷ negsuc 6 ∷ [])

abbrev R : ℤ → Network Whole
R x = network_of wholes triangle_drawn.rows (values x)

drawn : Drawn triangle_drawn.rows 3
drawn = below 3 _ ((omega arith, omega arith), ((omega arith, omega arith), ((omega arith, omega arith), tt)))

keeps : (x : ℤ) → NodesKeep wholes triangle_drawn.rows (values x) 3
unfolding int_wrap
keeps x = below 3 _ (refl, (refl, (refl, tt)))

lowest : Lowest (R (pos 7)) 3 1
lowest = first_is_lowest wholes (R (pos 7)) 3 (below 3 _ ((omega arith, omega arith), ((omega arith, omega arith), ((omega arith, omega arith), tt))))

only : (q : ℕ → Whole) → EquationsHold wholes triangle_drawn (steady wholes (values (pos 7))) q → GroundedNodes wholes triangle_drawn (values (pos 7)) q → (n : ℕ) → n < 3 → q n ≡ read wholes potentials n
unfolding int_wrap
only q holds grounded =
    let first : q 0 ≡ wholes.zero = grounded 0 (omega arith) lowest in
    let from_first = λ (x : ℤ). ap (λ u. minus wholes u (whole x)) first in
    below 3 (λ n. q n ≡ read wholes potentials n) (
      first,
      (
        end_potential wholes 6 (steady wholes (values (pos 7))) q (Branch 0 1 0 1) (omega arith) (holds 3 (omega arith)) ∙ from_first (pos 3),
        (end_potential wholes 6 (steady wholes (values (pos 7))) q (Branch 4 5 0 2) (omega arith) (holds 5 (omega arith)) ∙ from_first (pos 7), tt),
      ),
    )

filling : Filling wholes triangle_drawn (steady wholes (values (pos 7))) potentials
unfolding int_wrap
filling = record {
  fits = below 6 _ (refl, (refl, (refl, (refl, (refl, (refl, tt))))));
  grounded = below 3 (λ n. Lowest (R (pos 7)) 3 (n + 1) → read wholes potentials n ≡ wholes.zero) (
    (λ low. refl),
    (
      (λ low. absurd (omega (arith, low 1 (backward 0 ∷ []) (omega arith, refl, refl)))),
      (
        (λ low. absurd (omega (arith, low 1 (backward 2 ∷ []) (omega arith, refl, refl)))),
        tt,
      ),
    ),
  );
  only = only;
}

pub triangle_holds : IsChecked wholes triangle_drawn (values (pos 7)) Holds potentials
unfolding int_wrap
triangle_holds = answers wholes triangle_drawn (values (pos 7)) Holds potentials refl refl
    (agree wholes triangle_drawn (steady wholes (values (pos 7))) potentials drawn (λ k l. absurd (omega arith)) (keeps (pos 7)) (below 3 _ (refl, (refl, (refl, tt)))))
    filling

refuted : Refuted wholes (R (pos 8)) 3 2
unfolding int_wrap
refuted = refuted_from wholes (R (pos 8)) _ _ (omega arith)
    (potentials_close_walks wholes (R (pos 8)) 2 (with_earth wholes (read wholes potentials)) (below 2 _ (refl, (refl, tt))))
    ((1, forward 0 ∷ forward 1 ∷ backward 2 ∷ [], (omega arith, refl, (omega arith, refl, (omega arith, refl, refl))), nonzero_whole (negsuc 0) refl))

pub triangle_row : IsChecked wholes triangle_drawn (values (pos 8)) (Row 2) (map whole (replicate 3 (pos 0)))
unfolding int_wrap
triangle_row = answers wholes triangle_drawn (values (pos 8)) (Row 2) (map whole (replicate 3 (pos 0))) refl refl
    ((λ k l. absurd (omega arith)), keeps (pos 8), refuted)
    refl

pub triangle_node : (x y z : ℤ) → IsChecked wholes triangle_drawn (map whole (pos 1 ∷ x ∷ pos 1 ∷ y ∷ pos 1 ∷ z ∷ [])) (Node 0) (map whole (replicate 3 (pos 0)))
unfolding int_wrap
triangle_node x y z = answers wholes triangle_drawn (map whole (pos 1 ∷ x ∷ pos 1 ∷ y ∷ pos 1 ∷ z ∷ [])) (Node 0) (map whole (replicate 3 (pos 0))) refl refl
    ((λ k l. absurd (omega arith)), record { within = omega arith; before = λ u l. absurd (omega arith); here = nonzero_whole (pos 2) refl })
    refl
