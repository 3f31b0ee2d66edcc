-- The potentials over whole numbers have the values of those over the integers.
use Rattle.std.proofs.Common.{◌≡◌, ℕ, ◌+◌, ◌^◌, ◌<◌, ◌≤◌, List, length, ℤ, sym, ap, ◌∙◌, ap₂, subst}
use Rattle.std.specs.Int.RustNames.{unsigned_abs}
use Rattle.quantity.specs.Group.{minus}
use Rattle.quantity.specs.Integers.{integers}
use Rattle.quantity.specs.Wholes.{whole, whole_wrapping, wholes}
use Rattle.quantity.specs.declared.numbers.Whole.{Whole}
use Rattle.quantity.proofs.Groups.{minus_zero}
use Rattle.quantity.proofs.Images.{whole_respects}
use Rattle.netlist.specs.Netlist.{Netlist}
use Rattle.netlist.specs.Sound.{Sound}
use Rattle.network.specs.Settled.{Settled}
use Rattle.network.specs.Walks.{walk_sum, Within, Satisfies, Grounded, Solved}
use Rattle.network.proofs.Folding.{state, closing_has_potentials}
use Rattle.network.proofs.Settling.{settled_solves}
use Rattle.network.proofs.Walking.{walk_adds, potentials_close_walks}
use Rattle.small_readings.specs.Small.{AreSmall}
use Rattle.small_readings.specs.Exact.{over_wholes, over_integers}
use Rattle.small_readings.proofs.Bounds.{held_as_is, rows_within}
use Rattle.small_readings.proofs.Closing.{walk_to_wholes, short_near, close_to_integers}
use Rattle.small_readings.proofs.Images.{reading_is}
use Rattle.small_readings.proofs.Shortening.{shortened}

-- a difference of integers, as whole numbers
minus_is : (x y : ℤ) → whole (minus integers x y) ≡ minus wholes (whole x) (whole y)
minus_is x y = whole_respects.sum x (integers.negation y) ∙ ap (wholes.sum (whole x)) (whole_respects.negation y)

module _ (b : Netlist) (sound : Sound b) (values : List Whole) (small : AreSmall values) (k : ℕ) (few : k ≤ length b.rows) where
  abbrev n : ℕ
  n = length b.domains + 1

  within : Within (over_integers b values) n k
  within = rows_within b sound k few values

  -- integer potentials, held as whole numbers
  satisfies_wholes : (q : ℕ → ℤ) → Satisfies integers (over_integers b values) k q → Satisfies wholes (over_wholes b values) k (λ v. whole (q v))
  satisfies_wholes q fits j l = reading_is b values j ∙ ap whole (fits j l) ∙ minus_is _ _

  grounded_wholes : (q : ℕ → ℤ) → Grounded integers (over_integers b values) n k q → Grounded wholes (over_wholes b values) n k (λ v. whole (q v))
  grounded_wholes q ground v l lowest = ap whole (ground v l (λ u s w. lowest u s (walk_to_wholes b sound values small k v u s w)))

  -- potentials that are built up row by row are what a short walk adds to
  settled_near : (label : ℕ → ℕ) (q : ℕ → ℤ) → Settled integers (over_integers b values) n k label q → (v : ℕ) → v < n → unsigned_abs (q v) < 2 ^ 63
  settled_near label q settled v l =
      let reach = settled.walks v l in
      let s = shortened integers (over_integers b values) k n within v (label v) reach.0 reach.1 in
      let is : walk_sum integers (over_integers b values) s.0 ≡ q v =
      walk_adds integers (over_integers b values) k q settled.satisfies v (label v) s.0 s.1
      ∙ ap (minus integers (q v)) (settled.ground v l) ∙ minus_zero integers (q v) in
      subst (λ (z : ℤ). unsigned_abs z < 2 ^ 63) is (short_near b sound values small s.0 s.2)

  pub solved_to_integers : (p : ℕ → Whole) → Solved wholes (over_wholes b values) n k p → Solved integers (over_integers b values) n k (λ v. (p v).value)
  solved_to_integers p solved =
      let close = close_to_integers b sound values small k few (potentials_close_walks wholes (over_wholes b values) k p solved.satisfies) in
      let built = state integers (over_integers b values) n k within close in
      let q = built.1 in
      let found = settled_solves integers (over_integers b values) n k built.0 q built.2 within in
      let same : (v : ℕ) → v < n → (p v).value ≡ q v =
      λ v l.
      ap (λ (x : Whole). x.value) (sym (solved.only (λ u. whole (q u)) (satisfies_wholes q found.satisfies) (grounded_wholes q found.grounded) v l))
      ∙ held_as_is (q v) (settled_near built.0 q built.2 v l) in
      record {
        satisfies = λ j l. found.satisfies j l ∙ sym (ap₂ (minus integers) (same _ (within j l).0) (same _ (within j l).1));
        grounded = λ v l lowest. same v l ∙ found.grounded v l lowest;
        only = λ r fits ground v l. found.only r fits ground v l ∙ sym (same v l);
      }

  pub solved_to_wholes : (p : ℕ → Whole) → Solved integers (over_integers b values) n k (λ v. (p v).value) → Solved wholes (over_wholes b values) n k p
  solved_to_wholes p solved =
      let back = λ (v : ℕ). whole_wrapping.of_value (p v) in
      let satisfies : Satisfies wholes (over_wholes b values) k p =
      λ j l. satisfies_wholes (λ v. (p v).value) solved.satisfies j l ∙ ap₂ (minus wholes) (back _) (back _) in
      let grounded : Grounded wholes (over_wholes b values) n k p =
      λ v l lowest. sym (back v) ∙ grounded_wholes (λ v. (p v).value) solved.grounded v l lowest in
      let found = closing_has_potentials wholes (over_wholes b values) n k within (potentials_close_walks wholes (over_wholes b values) k p satisfies) in
      record {
        satisfies = satisfies;
        grounded = grounded;
        only = λ r fits ground v l. found.1.only r fits ground v l ∙ sym (found.1.only p satisfies grounded v l);
      }
