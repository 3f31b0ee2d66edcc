-- Two copies of a part are the part in series with itself.
use Rattle.std.proofs.Common.{length, ⊎_elim, ◌≡◌, ℕ, ◌+◌, ◌*◌, Bool, true, false, eqb, ◌&&◌, List, [], ◌++◌, Some, None, Option, sym, refl, ◌∙◌, arith}
use Rattle.std.proofs.lemmas.List.{append-nil, take-append-drop}
use Rattle.std.proofs.lemmas.Bool.{cases_eq, eq-eqb, ne_eqb}
use Rattle.netlist.specs.Domains.{domain_number}
use Rattle.netlist.specs.declared.domains.Domain.{Domain}
use Rattle.assembly.specs.Meaning.{Meaning, void, plan, Plan, Proper, size_in}
use Rattle.layers.specs.declared.renumbering.Renumbering.{Renumbering}
use Rattle.layers.specs.Renumbered.{moved_rows, moved_laws}
use Rattle.layers.specs.Layer.{layer_if, same_domain, domain_at, first_end, second_end}
use Rattle.series.specs.Series.{in_series, series, front_place, back_place, meet}
use Rattle.repeat.specs.Repeat.{in_copies, repeated, copy_place, meet as ends_meet}

-- one copy more, at a place of its own, and none behind it
two : {X : Type 0} {p q p' q' : Renumbering} (f : Renumbering → List X) → p ≡ p' → q ≡ q' → f p ++ (f q ++ []) ≡ f p' ++ f q'
two f e d = (λ i. f (e i) ++ append-nil (f (d i)) i)

same_test : (m n : ℕ) → eqb m n ≡ eqb n m
same_test m n =
    ⊎_elim (λ e. eq-eqb m n e ∙ sym (eq-eqb n m (sym e))) (λ ne. ne_eqb m n ne ∙ sym (ne_eqb n m (λ e. ne (sym e)))) (cases_eq m n)

pub same_either_way : (x y : Option Domain) → same_domain x y ≡ same_domain y x
same_either_way None None = refl
same_either_way None (Some e) = refl
same_either_way (Some d) None = refl
same_either_way (Some d) (Some e) = same_test (domain_number d) (domain_number e)

module _ (a : Plan) where
  first_place : copy_place (size_in a) 2 0 ≡ front_place (size_in a) (size_in a)
  first_place =
      let n = length a.inner in
      let second : 2 + 2 * n ≡ 2 + n + n = omega arith in
      let inner_from : 2 + 0 * n ≡ 2 = omega arith in
      let variables_from : 0 * a.variables ≡ 0 = omega arith in
      (λ i. record { first = 0; second = second i; inner = n; inner_from = inner_from i; variables = a.variables; variables_from = variables_from i })

  second_place : copy_place (size_in a) 2 1 ≡ back_place (size_in a) (size_in a)
  second_place =
      let n = length a.inner in
      let first : 2 + 2 * n ≡ 2 + n + n = omega arith in
      let inner_from : 2 + 1 * n ≡ 2 + n = omega arith in
      let variables_from : 1 * a.variables ≡ a.variables = omega arith in
      (λ i. record { first = first i; second = 1; inner = n; inner_from = inner_from i; variables = a.variables; variables_from = variables_from i })

  two_copies : in_copies 2 a ≡ in_series a a
  two_copies =
      let variables : 2 * a.variables ≡ a.variables + a.variables = omega arith in
      let ends : a.ends ≡ first_end a ++ second_end a = sym (take-append-drop 1 a.ends) in
      (λ i. record {
        ends = ends i;
        inner = (a.inner ++ append-nil a.inner i) ++ append-nil (second_end a) i;
        variables = variables i;
        rows = two (λ r. moved_rows r a) first_place second_place i;
        laws = two (λ r. moved_laws r a) first_place second_place i;
      })

pub and_true : (b : Bool) → (b && true) ≡ b
and_true true = refl
and_true false = refl

pub twice_is_series : (m : Meaning) → Proper m → repeated 2 m ≡ series m m
twice_is_series void p = refl
twice_is_series (plan a) p =
    let meets : (ends_meet (plan a) && true) ≡ meet (plan a) (plan a) = and_true (ends_meet (plan a)) ∙ same_either_way (domain_at (plan a) 0) (domain_at (plan a) 1) in
    (λ i. layer_if (meets i) (two_copies a i))
