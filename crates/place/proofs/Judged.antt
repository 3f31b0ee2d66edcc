-- Placing is judged by the ends, then by the plan alone, and then by the room.
use Rattle.std.proofs.Common.{◌≡◌, ℕ, ◌+◌, List, [], ◌∷◌, ◌++◌, map, length, None, Some, Option, sym, refl, ap, ◌∙◌, arith}
use Rattle.std.specs.Option.{option_or}
use Rattle.std.proofs.lemmas.Bool.{leb-false, eqb-true, not-false}
use Rattle.netlist.specs.declared.domains.Domain.{Domain}
use Rattle.plan_judging.specs.declared.refusals.PlaceRefusal.{PlaceRefusal}
use Rattle.netlist.specs.declared.rows.Row.{Row}
use Rattle.netlist.specs.Domains.{domain_number}
use Rattle.netlist.specs.Netlist.{Netlist, term_count}
use Rattle.refusal.specs.Tests.{first_of}
use Rattle.netlist.specs.Sound.{Sound}
use Rattle.refusal.proofs.Tables.{passes}
use Rattle.assembly.specs.declared.plans.Size.{Size}
use Rattle.assembly.specs.Meaning.{Meaning, void, plan, Plan, Bounded, Proper, size_in, size_of, laws_of}
use Rattle.plan_judging.specs.Alone.{judge_rows, judge_laws, judge_alone, judge_assembly}
use Rattle.place.specs.Moved.{moved_row, moved_rows, moved_laws, widened, with_plan}
use Rattle.place.specs.Parts.{plan_of, judge_void_ends}
use Rattle.place.specs.Place.{drawn_tests, end_tests, judge_ends, judge_room, judge_limits, judge_placing, judge_place, with_assembly}
use Rattle.place.proofs.Matching.{Meets, rows_there, laws_there}

or_assoc : (o p q : Option PlaceRefusal) → option_or o (option_or p q) ≡ option_or (option_or o p) q
or_assoc None p q = refl
or_assoc (Some why) p q = refl

or_none : (o p : Option PlaceRefusal) → option_or o p ≡ None → (o ≡ None) × (p ≡ None)
or_none None p h = (refl, h)
or_none (Some why) p h = let z : ◌≡◌ {A = ℕ} 0 1 = cc in absurd (omega arith)

-- what a plan of this size adds is what the plan adds
limits_are : (b : Netlist) (m : Meaning) (size : Size) → size_of m ≡ Some size
    → judge_room b (record { nodes = size.inner; variables = size.variables; rows = size.rows; laws = size.laws }) (term_count (laws_of m)) ≡ judge_limits b (plan_of m)
limits_are b void size h = let z : ◌≡◌ {A = ℕ} 0 1 = cc in absurd (omega arith)
limits_are b (plan p) size h =
    let same : size ≡ size_in p = cc in
    ap (λ (s : Size). judge_room b (record { nodes = s.inner; variables = s.variables; rows = s.rows; laws = s.laws }) (term_count p.laws)) same

module _ (b : Netlist) (sound : Sound b) (first second : ℕ) where
  -- the plan's rows are judged on the netlist as on the plan
  there : (ends inner : List Domain) (n : ℕ) (rows : List (Row ℕ)) → length ends ≡ 2
      → first_of (drawn_tests b.domains 0 (first ∷ second ∷ []) ++ end_tests b.domains 0 ends (first ∷ second ∷ [])) ≡ None
      → judge_rows (record { domains = map domain_number (ends ++ inner); variables = n; rows = []; laws = [] }) 0 rows
      ≡ judge_rows (record b { domains = b.domains ++ map domain_number inner; variables = b.variables + n }) 0 (map (moved_row (length b.domains) b.variables (first ∷ second ∷ [])) rows)
  there [] inner n rows two h = absurd (omega (arith, two))
  there (d ∷ []) inner n rows two h = absurd (omega (arith, two))
  there (d ∷ e ∷ []) inner n rows two h =
      let t = passes (drawn_tests b.domains 0 (first ∷ second ∷ []) ++ end_tests b.domains 0 (d ∷ e ∷ []) (first ∷ second ∷ [])) h in
      let meets : Meets b.domains first second d e = record {
        first_drawn = leb-false _ _ t.0;
        second_drawn = leb-false _ _ t.1.0;
        first_is = eqb-true _ _ (not-false _ t.1.1.0);
        second_is = eqb-true _ _ (not-false _ t.1.1.1.0);
      } in
      rows_there b.domains first second d e (map domain_number inner) meets b.variables n [] b.rows [] b.laws 0 rows (λ w. sym (sound.drawn (b.variables + w) (omega arith)))
  there (d ∷ e ∷ f ∷ ends) inner n rows two h = absurd (omega (arith, two))

  alone_there : (p : Plan) → Bounded p → judge_ends b (first ∷ second ∷ []) p ≡ None
      → judge_alone p ≡ option_or (judge_rows (widened b p) 0 (moved_rows b (first ∷ second ∷ []) p)) (judge_laws (b.variables + p.variables) 0 (moved_laws b p))
  alone_there p bounded h = λ i. option_or (there p.ends p.inner p.variables p.rows bounded.two_ends h i) (laws_there b.variables p.variables 0 p.laws i)

  plan_judged : (p : Plan) → Bounded p → judge_ends b (first ∷ second ∷ []) p ≡ None → judge_placing b (first ∷ second ∷ []) p ≡ option_or (judge_alone p) (judge_limits b p)
  plan_judged p bounded h =
      let rows = judge_rows (widened b p) 0 (moved_rows b (first ∷ second ∷ []) p) in
      let laws = judge_laws (b.variables + p.variables) 0 (moved_laws b p) in
      let limits = judge_limits b p in
      ap (λ (o : Option PlaceRefusal). option_or o (option_or rows (option_or laws limits))) h
      ∙ or_assoc rows laws limits
      ∙ ap (λ (o : Option PlaceRefusal). option_or o limits) (sym (alone_there p bounded h))

  pub place_judged : (m : Meaning) → Proper m → judge_void_ends b (first ∷ second ∷ []) m ≡ None → judge_place b m (first ∷ second ∷ []) ≡ option_or (judge_assembly m) (judge_limits b (plan_of m))
  place_judged void proper h = let z : ◌≡◌ {A = ℕ} 0 1 = cc in absurd (omega arith)
  place_judged (plan p) proper h = plan_judged p proper h

  -- what is wrong with the plan alone is wrong there
  pub stops_inside : (m : Meaning) (why : PlaceRefusal) → Proper m → judge_void_ends b (first ∷ second ∷ []) m ≡ None → judge_assembly m ≡ Some why → judge_place b m (first ∷ second ∷ []) ≡ Some why
  stops_inside m why proper h k = place_judged m proper h ∙ ap (λ (o : Option PlaceRefusal). option_or o (judge_limits b (plan_of m))) k

  -- and what passes alone is left to the room
  pub left_to_room : (m : Meaning) (size : Size) → Proper m → judge_void_ends b (first ∷ second ∷ []) m ≡ None → judge_assembly m ≡ None → size_of m ≡ Some size
      → judge_place b m (first ∷ second ∷ []) ≡ judge_room b (record { nodes = size.inner; variables = size.variables; rows = size.rows; laws = size.laws }) (term_count (laws_of m))
  left_to_room m size proper h k s = place_judged m proper h ∙ ap (λ (o : Option PlaceRefusal). option_or o (judge_limits b (plan_of m))) k ∙ sym (limits_are b m size s)

  -- where its rows and laws pass
  pub passed_there : (m : Meaning) → Proper m → judge_void_ends b (first ∷ second ∷ []) m ≡ None → judge_assembly m ≡ None
      → (judge_rows (widened b (plan_of m)) 0 (moved_rows b (first ∷ second ∷ []) (plan_of m)) ≡ None) × (judge_laws (b.variables + (plan_of m).variables) 0 (moved_laws b (plan_of m)) ≡ None)
  passed_there void proper h k = let z : ◌≡◌ {A = ℕ} 0 1 = cc in absurd (omega arith)
  passed_there (plan p) proper h k = or_none _ _ (sym (alone_there p proper h) ∙ k)

pub with_is : (b : Netlist) (given : List ℕ) (m : Meaning) (size : Size) → size_of m ≡ Some size → with_plan b given (plan_of m) ≡ with_assembly b m given
with_is b given void size h = let z : ◌≡◌ {A = ℕ} 0 1 = cc in absurd (omega arith)
with_is b given (plan p) size h = refl

pub variables_are : (m : Meaning) (size : Size) → size_of m ≡ Some size → (plan_of m).variables ≡ size.variables
variables_are void size h = let z : ◌≡◌ {A = ℕ} 0 1 = cc in absurd (omega arith)
variables_are (plan p) size h =
    let same : size_in p ≡ size = cc in
    ap (λ (s : Size). s.variables) same
