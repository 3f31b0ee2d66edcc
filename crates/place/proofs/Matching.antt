-- A plan is judged on a draft as it is by itself, once its ends have passed.
use Rattle.std.proofs.Common.{◌≡◌, ℕ, zero, suc, ◌+◌, ◌<◌, Bool, List, [], ◌∷◌, ◌++◌, map, length, sym, refl, ap, ◌∙◌, arith}
use Rattle.std.specs.Prelude.{◌==◌, ◌||◌, not, nat_le, nat_lt, slice_index}
use Rattle.std.specs.Option.{option_map, option_or}
use Rattle.std.proofs.lemmas.Bool.{cond-false, le-ltb, lt-leb}
use Rattle.std.proofs.lemmas.List.{length-append, length-map, get_or_append_left, get_or-append-add}
use Rattle.netlist.specs.declared.domains.Domain.{Domain}
use Rattle.draft.specs.declared.refusals.Argument.TheVariants.{Flow, Across, First, Second, Node, Term as TermNumber}
use Rattle.draft.specs.declared.refusals.DraftRefusal.TheVariants.{NoNode, NoVariable, Domain as DomainDiffers, Taken, Coefficient, TermCount, Order}
use Rattle.plan_judging.specs.declared.refusals.PlaceRefusal.TheVariants.{Row as RowRefused, Law as LawRefused}
use Rattle.netlist.specs.declared.rows.Row.{Row}
use Rattle.netlist.specs.declared.rows.Row.TheVariants.{Branch, Earth}
use Rattle.netlist.specs.declared.terms.RawTerm.{RawTerm}
use Rattle.netlist.specs.declared.terms.Term.{Term}
use Rattle.netlist.specs.Domains.{domain_number}
use Rattle.netlist.specs.Rows.{bit, hits, uses, taken_by}
use Rattle.draft.specs.Rules.{no_node, domain_of, row_tests, table_terms, table_law}
use Rattle.netlist.specs.Limits.{no_coefficient, no_term_count}
use Rattle.refusal.specs.Tests.{first_of}
use Rattle.netlist.proofs.Taking.{uses_push}
use Rattle.plan_judging.specs.Alone.{judge_rows, judge_laws}
use Rattle.plan_judging.specs.Terms.{counted_on, law_from}
use Rattle.place.specs.Moved.{moved_node, moved_row}
use Rattle.place.proofs.Shifts.{le_on, eq_on}

-- the nodes given for two ends are drawn, and have the domains of the ends
pub record Meets (domains : List ℕ) (first second : ℕ) (d e : Domain) : Type 0 where
  pub first_drawn : first < length domains
  pub second_drawn : second < length domains
  pub first_is : domain_of domains first ≡ domain_number d
  pub second_is : domain_of domains second ≡ domain_number e

-- a plan with the ends d and e and these inner nodes and n variables, and a netlist that it goes on
module _ (domains : List ℕ) (first second : ℕ) (d e : Domain) (inner : List ℕ) (meets : Meets domains first second d e) (v n : ℕ) where
  -- the plan's nodes by themselves, and behind those that are drawn
  abbrev alone : List ℕ
  alone = domain_number d ∷ domain_number e ∷ inner

  abbrev wide : List ℕ
  wide = domains ++ inner

  abbrev node : ℕ → ℕ
  node k = moved_node (length domains) (first ∷ second ∷ []) k

  abbrev move : Row ℕ → Row ℕ
  move row = moved_row (length domains) v (first ∷ second ∷ []) row

  inner_node : (j : ℕ) → node (suc (suc j)) ≡ length domains + j
  inner_node j = cond-false _ _ _ (le-ltb (suc (suc j)) 2 (omega arith)) ∙ omega arith

  node_there : (k : ℕ) → no_node alone k ≡ no_node wide (node k)
  node_there zero = lt-leb _ _ (omega arith) ∙ sym (lt-leb (length wide) first (omega (arith, length-append domains inner, meets.first_drawn)))
  node_there (suc zero) = lt-leb _ _ (omega arith) ∙ sym (lt-leb (length wide) second (omega (arith, length-append domains inner, meets.second_drawn)))
  node_there (suc (suc j)) =
      let one : length alone ≡ 2 + length inner = omega arith in
      let place : suc (suc j) ≡ 2 + j = omega arith in
      let behind = inner_node j in
      (λ i. nat_le (one i) (place i))
      ∙ sym (le_on 2 (length inner) j)
      ∙ le_on (length domains) (length inner) j
      ∙ sym (λ i. nat_le (length-append domains inner i) (behind i))

  domain_there : (k : ℕ) → domain_of alone k ≡ domain_of wide (node k)
  domain_there zero = sym meets.first_is ∙ sym (get_or_append_left domains inner 0 first meets.first_drawn)
  domain_there (suc zero) = sym meets.second_is ∙ sym (get_or_append_left domains inner 0 second meets.second_drawn)
  domain_there (suc (suc j)) = sym (ap (slice_index wide) (inner_node j) ∙ get_or-append-add domains inner j 0)

  -- a row is judged alike, where the rows before have the same variables
  row_there : (taken taken' : ℕ → Bool) → ((w : ℕ) → taken w ≡ taken' (v + w)) → (row : Row ℕ) → first_of (row_tests alone n taken row) ≡ first_of (row_tests wide (v + n) taken' (move row))
  row_there taken taken' same (Branch flow across one other) = λ i. first_of
      ((node_there one i, NoNode First)
      ∷ (node_there other i, NoNode Second)
      ∷ (le_on v n flow i, NoVariable Flow)
      ∷ (le_on v n across i, NoVariable Across)
      ∷ (same flow i, Taken Flow)
      ∷ (same across i || eq_on v across flow i, Taken Across)
      ∷ (not (domain_there one i == domain_there other i), DomainDiffers Second)
      ∷ [])
  row_there taken taken' same (Earth flow across at) = λ i. first_of
      ((node_there at i, NoNode Node)
      ∷ (le_on v n flow i, NoVariable Flow)
      ∷ (le_on v n across i, NoVariable Across)
      ∷ (same flow i, Taken Flow)
      ∷ (same across i || eq_on v across flow i, Taken Across)
      ∷ [])

  hits_there : (row : Row ℕ) (w : ℕ) → hits row w ≡ hits (move row) (v + w)
  hits_there (Branch flow across one other) w = λ i. bit (eq_on v flow w i) + bit (eq_on v across w i)
  hits_there (Earth flow across at) w = λ i. bit (eq_on v flow w i) + bit (eq_on v across w i)

  pub rows_there : (xs ys : List (Row ℕ)) (laws laws' : List (List Term)) (k : ℕ) (rows : List (Row ℕ)) → ((w : ℕ) → uses xs w ≡ uses ys (v + w))
      → judge_rows (record { domains = alone; variables = n; rows = xs; laws = laws }) k rows ≡ judge_rows (record { domains = wide; variables = v + n; rows = ys; laws = laws' }) k (map move rows)
  rows_there xs ys laws laws' k [] same = refl
  rows_there xs ys laws laws' k (row ∷ rows) same =
      let here = row_there (taken_by xs) (taken_by ys) (λ w i. nat_lt 0 (same w i)) row in
      let next = λ (w : ℕ). uses_push xs row w ∙ (λ i. same w i + hits_there row w i) ∙ sym (uses_push ys (move row) (v + w)) in
      λ i. option_or (option_map (λ why. RowRefused k why) (here i)) (rows_there (xs ++ row ∷ []) (ys ++ move row ∷ []) laws laws' (k + 1) rows next i)

-- a law is judged alike
terms_there : (v n i : ℕ) (law : List (RawTerm ℕ)) → table_terms n i law ≡ table_terms (v + n) i (law_from v law)
terms_there v n i [] = refl
terms_there v n i (t ∷ law) = λ j.
    (no_coefficient t.coefficient, Coefficient i)
    ∷ (nat_lt 1 t.order, Order i)
    ∷ (le_on v n t.variable j, NoVariable (TermNumber i))
    ∷ terms_there v n (i + 1) law j

law_there : (v n : ℕ) (law : List (RawTerm ℕ)) → table_law n law ≡ table_law (v + n) (law_from v law)
law_there v n law =
    let long = sym (length-map law (counted_on v)) in
    λ j. (no_term_count (long j), TermCount) ∷ terms_there v n 1 law j

pub laws_there : (v n k : ℕ) (laws : List (List (RawTerm ℕ))) → judge_laws n k laws ≡ judge_laws (v + n) k (map (law_from v) laws)
laws_there v n k [] = refl
laws_there v n k (law ∷ laws) = λ i. option_or (option_map (λ why. LawRefused k why) (first_of (law_there v n law i))) (laws_there v n (k + 1) laws i)
