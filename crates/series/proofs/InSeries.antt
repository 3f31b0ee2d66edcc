-- Two parts in series, and the domains of their nodes.
use Rattle.std.proofs.Common.{◌≡◌, ℕ, zero, suc, ◌+◌, ◌-◌, List, [], ◌∷◌, ◌++◌, length, take, drop, sym, refl, ap, ◌∙◌, arith}
use Rattle.std.specs.List.{slice_get}
use Rattle.std.proofs.lemmas.List.{length-append}
use Rattle.assembly.specs.Meaning.{Meaning, domains_of}
use Rattle.assembly.proofs.Nth.{nth_append_right}
use Rattle.layers.specs.declared.halves.Halves.{Halves}
use Rattle.layers.specs.Joined.{joined_domains}
use Rattle.layers.specs.Two.{Halved}
use Rattle.layers.proofs.Ends.{by_ends, by_both_ends}
use Rattle.layers.proofs.Halving.{PartsLayout, by_halves}
use Rattle.series.specs.Series.{joint, in_series, meet, series, front_place, back_place}

pub series_layout : PartsLayout 1 in_series front_place back_place
series_layout = record {
  ends = λ a b p q. by_both_ends (λ xs ys. length (take 1 xs ++ drop 1 ys) ≡ 2) (λ x y u v. refl) a.ends b.ends p.two_ends q.two_ends;
  inner =
      λ a b p q.
      length-append (a.inner ++ b.inner) (drop 1 a.ends)
      ∙ omega (arith, length-append a.inner b.inner, by_ends (λ xs. length (drop 1 xs) ≡ 1) (λ x y. refl) a.ends p.two_ends);
  variables = λ a b. refl;
  rows = λ a b. refl;
  laws = λ a b. refl;
}

-- behind the inner nodes of both parts there is nothing but the joint
inner_other : {X : Type 0} (zs : List X) (y : X) (i : ℕ) → (i ≡ length zs → ⊥) → slice_get zs i ≡ slice_get (zs ++ y ∷ []) i
inner_other [] y zero apart = absurd (apart refl)
inner_other [] y (suc i) apart = refl
inner_other (z ∷ zs) y zero apart = refl
inner_other (z ∷ zs) y (suc i) apart = inner_other zs y i (λ e. apart (omega arith))

-- The domains of the nodes, from the ends xs and ys of the parts and their inner nodes.
module _ {X : Type 0} (is js : List X) where
  abbrev nodes : List X → List X → List X
  nodes xs ys = (take 1 xs ++ drop 1 ys) ++ (is ++ js ++ drop 1 xs)

  second_node : (xs ys : List X) → length xs ≡ 2 → length ys ≡ 2 → slice_get (ys ++ js) 1 ≡ slice_get (nodes xs ys) 1
  second_node = by_both_ends (λ xs ys. slice_get (ys ++ js) 1 ≡ slice_get (nodes xs ys) 1) (λ x y u v. refl)

  joint_node : (i : ℕ) → i ≡ 2 + length is + length js → (xs ys : List X) → length xs ≡ 2 → length ys ≡ 2 → slice_get (xs ++ is) 1 ≡ slice_get (nodes xs ys) i
  joint_node zero e = absurd (omega arith)
  joint_node (suc zero) e = absurd (omega arith)
  joint_node (suc (suc i)) e =
      let at : i ≡ length (is ++ js) = omega (arith, length-append is js) in
      by_both_ends (λ xs ys. slice_get (xs ++ is) 1 ≡ slice_get (nodes xs ys) (suc (suc i)))
      (λ x y u v.
      let none : i - length (is ++ js) ≡ 0 = omega arith in
      sym (nth_append_right (is ++ js) (y ∷ []) i (omega arith) ∙ ap (slice_get (y ∷ [])) none))

  other_node : (i : ℕ) → (i ≡ 1 → ⊥) → (i ≡ 2 + length is + length js → ⊥) → (xs ys : List X) → length xs ≡ 2 → length ys ≡ 2 → slice_get (xs ++ is ++ drop 2 (ys ++ js)) i ≡ slice_get (nodes xs ys) i
  other_node zero second last = by_both_ends (λ xs ys. slice_get (xs ++ is ++ drop 2 (ys ++ js)) 0 ≡ slice_get (nodes xs ys) 0) (λ x y u v. refl)
  other_node (suc zero) second last = absurd (second refl)
  other_node (suc (suc i)) second last =
      by_both_ends (λ xs ys. slice_get (xs ++ is ++ drop 2 (ys ++ js)) (suc (suc i)) ≡ slice_get (nodes xs ys) (suc (suc i)))
      (λ x y u v. inner_other (is ++ js) y i (λ e. last (omega (arith, e, length-append is js))))

module _ {m n : Meaning} {h : Halves} (is : Halved meet in_series m n h) where
  pub domain_second : slice_get (domains_of n) 1 ≡ slice_get (domains_of (series m n)) 1
  domain_second =
      by_halves meet in_series (λ m n w x y z. slice_get (domains_of n) 1 ≡ slice_get (domains_of w) 1)
      (λ a b p q s. second_node a.inner b.inner a.ends b.ends p.two_ends q.two_ends) is

  pub domain_joint : (i : ℕ) → i ≡ joint h.first h.second → slice_get (domains_of m) 1 ≡ slice_get (domains_of (series m n)) i
  domain_joint i =
      by_halves meet in_series (λ m n w x y z. i ≡ joint x y → slice_get (domains_of m) 1 ≡ slice_get (domains_of w) i)
      (λ a b p q s e. joint_node a.inner b.inner i e a.ends b.ends p.two_ends q.two_ends) is

  pub domain_other : (i : ℕ) → (i ≡ 1 → ⊥) → (i ≡ joint h.first h.second → ⊥) → slice_get (joined_domains m n) i ≡ slice_get (domains_of (series m n)) i
  domain_other i second =
      by_halves meet in_series (λ m n w x y z. (i ≡ joint x y → ⊥) → slice_get (joined_domains m n) i ≡ slice_get (domains_of w) i)
      (λ a b p q s last. other_node a.inner b.inner i second last a.ends b.ends p.two_ends q.two_ends) is
