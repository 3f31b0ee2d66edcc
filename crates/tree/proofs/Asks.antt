-- The part that is asked for a node's domain tells it.
use Rattle.std.proofs.Common.{◌≡◌, ℕ, ◌+◌, ◌-◌, Bool, nat_lt, sym, ap, ◌∙◌, arith}
use Rattle.std.specs.List.{slice_get}
use Rattle.std.proofs.lemmas.Bool.{cond_both}
use Rattle.std.proofs.lemmas.Bool.Decides.{nat_tests}
use Rattle.assembly.specs.Meaning.{Meaning, Plan, domains_of}
use Rattle.layers.specs.declared.halves.Halves.{Halves}
use Rattle.layers.specs.Joined.{joined_domains}
use Rattle.layers.specs.Two.{Halved}
use Rattle.layers.proofs.Asked.{front_node, back_node}
use Rattle.series.specs.Series.{joint, series}
use Rattle.series.proofs.InSeries.{domain_second, domain_joint, domain_other}
use Rattle.side_by_side.proofs.InParallel.{domains_joined}
use Rattle.tree.specs.declared.ways.Asked.TheVariants.{First, Second}
use Rattle.tree.specs.declared.ways.Way.{Way}
use Rattle.tree.specs.declared.ways.Way.TheVariants.{Series, SideBySide}
use Rattle.tree.specs.Ways.{joined_node, domain_of, AsksRightly}

module _ {meet : Meaning → Meaning → Bool} {whole : Plan → Plan → Plan} {m n : Meaning} {h : Halves} (is : Halved meet whole m n h) (i : ℕ) where
  joined_told : domain_of (joined_node h.first i) m n ≡ slice_get (joined_domains m n) i
  joined_told =
      cond_both (nat_lt i (2 + h.first.inner)) (First i) (Second (i - h.first.inner)) (λ a. domain_of a m n ≡ slice_get (joined_domains m n) i)
      (λ e. front_node is i (grind (arith, nat_tests)))
      (λ e. back_node is i (grind (arith, nat_tests)))

module _ {w : Way} (h : Halves) (i : ℕ) where
  pub second_asked : w ≡ Series → i ≡ 1 → AsksRightly w h i (Second 1)
  second_asked e at = rw e (λ m n is. domain_second is ∙ ap (slice_get (domains_of (series m n))) (sym at))

  pub joint_asked : w ≡ Series → i ≡ joint h.first h.second → AsksRightly w h i (First 1)
  joint_asked e at = rw e (λ m n is. domain_joint is i at)

  pub other_asked : w ≡ Series → (i ≡ 1 → ⊥) → (i ≡ joint h.first h.second → ⊥) → AsksRightly w h i (joined_node h.first i)
  other_asked e second last = rw e (λ m n is. joined_told is i ∙ domain_other is i second last)

  pub beside_asked : w ≡ SideBySide → AsksRightly w h i (joined_node h.first i)
  beside_asked e = rw e (λ m n is. joined_told is i ∙ ap (λ ds. slice_get ds i) (domains_joined is))
