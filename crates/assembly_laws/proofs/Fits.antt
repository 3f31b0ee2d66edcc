-- What it takes that a plan is placed between two nodes.
use Rattle.std.proofs.Common.{◌≡◌, ℕ, ◌+◌, ◌<◌, ◌≤◌, false, not, eqb, List, [], ◌∷◌, ◌++◌, map, length, get_or, None, sym, refl, ap, ◌∙◌, arith}
use Rattle.std.specs.Option.{option_map, option_or}
use Rattle.std.proofs.lemmas.Bool.{leb-false, ltb-false, lt-leb, le-ltb, eqb-true, eq-eqb, not-false, not_from_true}
use Rattle.std.proofs.lemmas.List.{length-map}
use Rattle.netlist.specs.declared.domains.Domain.{Domain}
use Rattle.netlist.specs.Domains.{domain_number}
use Rattle.netlist.specs.Limits.{most_nodes, most_variables, most_rows, most_laws, most_terms}
use Rattle.netlist.specs.Netlist.{Netlist, term_count}
use Rattle.refusal.specs.Tests.{Tests, first_of}
use Rattle.refusal.proofs.Tables.{passes}
use Rattle.draft.specs.Counting.{room_tests}
use Rattle.draft.specs.declared.refusals.Table.{Table}
use Rattle.plan_judging.specs.declared.refusals.PlaceRefusal.{PlaceRefusal}
use Rattle.plan_judging.specs.declared.refusals.PlaceRefusal.TheVariants.{Limit}
use Rattle.assembly.specs.Meaning.{Plan}
use Rattle.plan_judging.specs.Alone.{judge_rows, judge_laws}
use Rattle.place.specs.Moved.{moved_rows, moved_laws, widened}
use Rattle.place.specs.Place.{drawn_tests, end_tests, plan_counts, judge_ends, judge_limits, judge_placing}
use Rattle.assembly_laws.proofs.Passing.{neither, unmapped, all_pass}

pub term_count_append : {X : Type 0} (xs ys : List (List X)) → term_count (xs ++ ys) ≡ term_count xs + term_count ys
term_count_append [] ys = omega arith
term_count_append (x ∷ xs) ys = omega (arith, term_count_append xs ys)

pub term_count_map : {X Y : Type 0} (f : X → Y) (xs : List (List X)) → term_count (map (map f) xs) ≡ term_count xs
term_count_map f [] = refl
term_count_map f (x ∷ xs) = omega (arith, length-map x f, term_count_map f xs)

-- the node is drawn, and has this domain
pub record Seat (b : Netlist) (node : ℕ) (end : Domain) : Type 0 where
  pub drawn : node < length b.domains
  pub alike : get_or b.domains node 0 ≡ domain_number end

pub record Room (b : Netlist) (a : Plan) : Type 0 where
  pub nodes : length b.domains + length a.inner ≤ most_nodes
  pub variables : b.variables + a.variables ≤ most_variables
  pub rows : length b.rows + length a.rows ≤ most_rows
  pub laws : length b.laws + length a.laws ≤ most_laws
  pub terms : term_count b.laws + term_count a.laws ≤ most_terms

-- the plan's own ends, from x to y
pub record Fits (b : Netlist) (p q : ℕ) (x y : Domain) (a : Plan) : Type 0 where
  pub first : Seat b p x
  pub second : Seat b q y
  pub rows : judge_rows (widened b a) 0 (moved_rows b (p ∷ q ∷ []) a) ≡ None
  pub laws : judge_laws (b.variables + a.variables) 0 (moved_laws b a) ≡ None
  pub room : Room b a

module _ (b : Netlist) (p q : ℕ) (x y : Domain) (a : Plan) (ends : a.ends ≡ x ∷ y ∷ []) where
  abbrev tests : List Domain → Tests PlaceRefusal
  tests es = drawn_tests b.domains 0 (p ∷ q ∷ []) ++ end_tests b.domains 0 es (p ∷ q ∷ [])

  pub fits_from : judge_placing b (p ∷ q ∷ []) a ≡ None → Fits b p q x y a
  fits_from h =
      let s = neither (judge_ends b (p ∷ q ∷ []) a) _ h in
      let t = neither (judge_rows (widened b a) 0 (moved_rows b (p ∷ q ∷ []) a)) _ s.1 in
      let u = neither (judge_laws (b.variables + a.variables) 0 (moved_laws b a)) (judge_limits b a) t.1 in
      let e = passes (tests (x ∷ y ∷ [])) (ap (λ es. first_of (tests es)) (sym ends) ∙ s.0) in
      let limit : Table → PlaceRefusal = λ table. Limit table in
      let r = passes (room_tests b (plan_counts a) (term_count a.laws)) (unmapped limit _ u.1) in
      record {
        first = record { drawn = leb-false _ _ e.0; alike = eqb-true _ _ (not-false _ e.1.1.0) };
        second = record { drawn = leb-false _ _ e.1.0; alike = eqb-true _ _ (not-false _ e.1.1.1.0) };
        rows = t.0;
        laws = u.0;
        room = record {
          nodes = ltb-false _ _ r.0;
          variables = ltb-false _ _ r.1.0;
          rows = ltb-false _ _ r.1.1.0;
          laws = ltb-false _ _ r.1.1.1.0;
          terms = ltb-false _ _ r.1.1.1.1.0;
        };
      }

  pub fits_judged : Fits b p q x y a → judge_placing b (p ∷ q ∷ []) a ≡ None
  fits_judged f =
      let at : (node : ℕ) (end : Domain) → Seat b node end → not (eqb (get_or b.domains node 0) (domain_number end)) ≡ false =
      λ node end s. not_from_true _ (eq-eqb _ _ s.alike) in
      let e : judge_ends b (p ∷ q ∷ []) a ≡ None =
      ap (λ es. first_of (tests es)) ends
      ∙ all_pass (tests (x ∷ y ∷ [])) (lt-leb _ _ f.first.drawn, (lt-leb _ _ f.second.drawn, (at p x f.first, (at q y f.second, tt)))) in
      let limit : Table → PlaceRefusal = λ table. Limit table in
      let r : judge_limits b a ≡ None =
      ap (option_map limit)
      (all_pass (room_tests b (plan_counts a) (term_count a.laws))
      (le-ltb _ _ f.room.nodes, (le-ltb _ _ f.room.variables, (le-ltb _ _ f.room.rows, (le-ltb _ _ f.room.laws, (le-ltb _ _ f.room.terms, tt)))))) in
      (λ i. option_or (e i) (option_or (f.rows i) (option_or (f.laws i) (r i))))
