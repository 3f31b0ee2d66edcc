-- n + 1 copies of a part, and n copies in series with one more.
use Rattle.std.proofs.Common.{◌≡◌, ℕ, zero, suc, ◌+◌, ◌-◌, ◌*◌, ◌<◌, ◌≤◌, Bool, true, false, cond, ◌&&◌, List, [], ◌∷◌, ◌++◌, map, length, sym, refl, ap, ◌∙◌, subst, arith}
use Rattle.std.specs.List.{range_with_len, flat_map, slice_get}
use Rattle.std.proofs.lemmas.Bool.{and_parts, and_from, le-leb}
use Rattle.std.proofs.lemmas.List.{append_assoc, append-nil, map-append}
use Rattle.netlist.specs.declared.domains.Domain.{Domain}
use Rattle.netlist.specs.Renaming.{renamed_row}
use Rattle.assembly.specs.Plans.{PlanRow, PlanTerm, most_of_plan}
use Rattle.repeat.specs.Limits.{most_copies}
use Rattle.assembly.specs.declared.plans.Size.{Size}
use Rattle.assembly.specs.Meaning.{void, plan, Plan, Bounded, size_in, is_small}
use Rattle.layers.proofs.Ends.{by_ends}
use Rattle.layers.proofs.Small.{size_with, small_bounds}
use Rattle.layers.specs.Layer.{domain_at}
use Rattle.layers.specs.Two.{both_sizes}
use Rattle.layers.specs.declared.renumbering.Renumbering.{Renumbering}
use Rattle.layers.specs.Renumbered.{moved_variable, moved_row, moved_term, moved_rows, moved_laws}
use Rattle.series.specs.Series.{in_series, front_place, back_place, meet, series}
use Rattle.repeat.specs.Repeat.{in_turn, copy_place, in_copies, is_count, times_size, repeated, meet as ends_meet}
use Rattle.repeat.proofs.InCopies.{size_in_copies}
use Rattle.repeat.proofs.Turns.{length_turns}
use Rattle.assembly_laws.specs.More.{last_behind, last_before, OneCopyMore}
use Rattle.assembly_laws.specs.ButNodes.{nodes_only, PlanButNodes, MeansButNodes}
use Rattle.assembly_laws.specs.Swapped.{swapped}
use Rattle.assembly_laws.proofs.Swapped.{swapped_low, swapped_back, swapped_get}
use Rattle.assembly_laws.proofs.Twice.{same_either_way, and_true}
use Rattle.assembly_laws.proofs.Renamed.{in_layer, then, rows_moved, rows_twice}
use Rattle.assembly_laws.proofs.Placing.{with_ends}
use Rattle.assembly_laws.proofs.Associative.{both, rows_both, laws_both, rows_agree, laws_agree}
use Rattle.assembly_laws.proofs.CopyNumbers.{copy_node, last_node, copy_variable, last_variable}
use Rattle.assembly_laws.proofs.EitherWay.{series_size, small_first, inside_first, same_if}

-- Lists in turn: one more, each mapped, and each the same.
one_more : {X : Type 0} (f : ℕ → List X) (s n : ℕ) → flat_map f (range_with_len s (suc n)) ≡ flat_map f (range_with_len s n) ++ f (s + n)
one_more f s zero = let on : s ≡ s + 0 = omega arith in append-nil (f s) ∙ ap f on
one_more {X} f s (suc n) =
    let on : s + 1 + n ≡ s + suc n = omega arith in
    ap (λ (xs : List X). f s ++ xs) (one_more f (s + 1) n) ∙ sym (append_assoc (f s) (flat_map f (range_with_len (s + 1) n)) (f (s + 1 + n)))
    ∙ ap (λ k. flat_map f (range_with_len s (suc n)) ++ f k) on

turn_more : {X : Type 0} (f : ℕ → List X) (n : ℕ) → in_turn (n + 1) f ≡ in_turn n f ++ f n
turn_more f n =
    let on : n + 1 ≡ suc n = omega arith in
    let last : 0 + n ≡ n = omega arith in
    ap (λ k. in_turn k f) on ∙ one_more f 0 n ∙ ap (λ k. in_turn n f ++ f k) last

turns_mapped : {X Y : Type 0} (g : X → Y) (f : ℕ → List X) (s n : ℕ) → map g (flat_map f (range_with_len s n)) ≡ flat_map (λ i. map g (f i)) (range_with_len s n)
turns_mapped g f s zero = refl
turns_mapped {X} {Y} g f s (suc n) =
    map-append g (f s) (flat_map f (range_with_len (s + 1) n)) ∙ ap (λ (ys : List Y). map g (f s) ++ ys) (turns_mapped g f (s + 1) n)

turns_same : {X : Type 0} (f g : ℕ → List X) (s n : ℕ) → ((i : ℕ) → i < s + n → f i ≡ g i) → flat_map f (range_with_len s n) ≡ flat_map g (range_with_len s n)
turns_same f g s zero e = refl
turns_same f g s (suc n) e = (λ i. e s (omega arith) i ++ turns_same f g (s + 1) n (λ j l. e j (omega arith)) i)

module _ (a : Plan) (bounds : Bounded a) (n : ℕ) (some : 1 ≤ n) (x y : Domain) where
  abbrev part : Plan
  part = with_ends (x ∷ y ∷ []) a

  abbrev copies : Plan
  copies = in_copies n part

  abbrev left : Plan
  left = in_copies (n + 1) part

  abbrev right : Plan
  right = in_series copies part

  abbrev front : Renumbering
  front = front_place (size_in copies) (size_in part)

  abbrev back : Renumbering
  back = back_place (size_in copies) (size_in part)

  abbrev to : ℕ → ℕ
  to = swapped (2 + n * length a.inner) (length a.inner) (n - 1)

  bounds_of : Bounded part
  bounds_of = record {
    two_ends = refl;
    few_inner = bounds.few_inner;
    few_variables = bounds.few_variables;
    few_rows = bounds.few_rows;
    few_laws = bounds.few_laws;
    law_lengths = bounds.law_lengths;
  }

  has : size_in copies ≡ times_size n (size_in part)
  has = size_in_copies n part bounds_of

  has_more : size_in left ≡ times_size (n + 1) (size_in part)
  has_more = size_in_copies (n + 1) part bounds_of

  more_size : size_in right ≡ size_in left
  more_size =
      let s = size_in part in
      let inner : n * s.inner + (n - 1) + s.inner + 1 ≡ (n + 1) * s.inner + (n + 1 - 1) = omega arith in
      let variables : n * s.variables + s.variables ≡ (n + 1) * s.variables = omega arith in
      let rows : n * s.rows + s.rows ≡ (n + 1) * s.rows = omega arith in
      let laws : n * s.laws + s.laws ≡ (n + 1) * s.laws = omega arith in
      series_size copies part refl refl ∙ ap (λ z. both_sizes 1 z s) has ∙ (λ i. size_with 2 (inner i) (variables i) (rows i) (laws i)) ∙ sym has_more

  module _ (small : is_small (size_in left) ≡ true) where
    few_nodes : (n + 1) * length a.inner + n ≤ most_of_plan
    few_nodes = omega (arith, (small_bounds (size_in left) small).nodes, ap (λ (z : Size). z.inner) has_more)

    few_variables : (n + 1) * a.variables ≤ most_of_plan
    few_variables = (small_bounds (size_in left) small).variables

    of_copy : (i : ℕ) → i < n → (v : ℕ) → moved_variable (copy_place (size_in part) (n + 1) i) v ≡ moved_variable front (moved_variable (copy_place (size_in part) n i) v)
    of_copy = copy_variable (size_in part) (size_in copies) n refl few_variables

    of_last : (v : ℕ) → moved_variable (copy_place (size_in part) (n + 1) n) v ≡ moved_variable back v
    of_last = last_variable (size_in part) (size_in copies) n refl few_variables

    copy_rows : (i : ℕ) → i < n → map (renamed_row (nodes_only to)) (moved_rows (copy_place (size_in part) (n + 1) i) part) ≡ map (moved_row front) (moved_rows (copy_place (size_in part) n i) part)
    copy_rows i h =
        let here = copy_place (size_in part) (n + 1) i in
        let there = copy_place (size_in part) n i in
        ap (map (renamed_row (nodes_only to))) (rows_moved here a.rows) ∙ rows_twice (in_layer here) (nodes_only to) a.rows
        ∙ rows_agree (then (in_layer here) (nodes_only to)) (both there front) (copy_node (size_in part) (size_in copies) n some (ap (λ (z : Size). z.inner) has) few_nodes i h) (of_copy i h) a.rows
        ∙ sym (rows_both there front a.rows)

    last_rows : map (renamed_row (nodes_only to)) (moved_rows (copy_place (size_in part) (n + 1) n) part) ≡ map (moved_row back) a.rows
    last_rows =
        let here = copy_place (size_in part) (n + 1) n in
        ap (map (renamed_row (nodes_only to))) (rows_moved here a.rows) ∙ rows_twice (in_layer here) (nodes_only to) a.rows
        ∙ rows_agree (then (in_layer here) (nodes_only to)) (in_layer back) (last_node (size_in part) (size_in copies) n some (ap (λ (z : Size). z.inner) has) few_nodes) of_last a.rows
        ∙ sym (rows_moved back a.rows)

    rows_same : map (renamed_row (nodes_only to)) left.rows ≡ right.rows
    rows_same =
        let r = renamed_row (nodes_only to) in
        let f : ℕ → List PlanRow = λ i. moved_rows (copy_place (size_in part) (n + 1) i) part in
        let g : ℕ → List PlanRow = λ i. moved_rows (copy_place (size_in part) n i) part in
        let firsts : map r (in_turn n f) ≡ map (moved_row front) (in_turn n g) =
        turns_mapped r f 0 n ∙ turns_same (λ i. map r (f i)) (λ i. map (moved_row front) (g i)) 0 n (λ i l. copy_rows i (omega arith)) ∙ sym (turns_mapped (moved_row front) g 0 n) in
        ap (map r) (turn_more f n) ∙ map-append r (in_turn n f) (f n) ∙ (λ i. firsts i ++ last_rows i)

    laws_same : left.laws ≡ right.laws
    laws_same =
        let f : ℕ → List (List PlanTerm) = λ i. moved_laws (copy_place (size_in part) (n + 1) i) part in
        let g : ℕ → List (List PlanTerm) = λ i. moved_laws (copy_place (size_in part) n i) part in
        let copy : (i : ℕ) → i < n → f i ≡ map (map (moved_term front)) (g i) =
        λ i h. laws_agree (moved_variable (copy_place (size_in part) (n + 1) i)) (λ v. moved_variable front (moved_variable (copy_place (size_in part) n i) v)) (of_copy i h) a.laws
        ∙ sym (laws_both (copy_place (size_in part) n i) front a.laws) in
        let firsts : in_turn n f ≡ map (map (moved_term front)) (in_turn n g) =
        turns_same f (λ i. map (map (moved_term front)) (g i)) 0 n (λ i l. copy i (omega arith)) ∙ sym (turns_mapped (map (moved_term front)) g 0 n) in
        let last : f n ≡ moved_laws back part = laws_agree (moved_variable (copy_place (size_in part) (n + 1) n)) (moved_variable back) of_last a.laws in
        turn_more f n ∙ (λ i. firsts i ++ last i)

    nodes_left : left.ends ++ left.inner ≡ (x ∷ y ∷ in_turn n (λ i. a.inner)) ++ (a.inner ++ (in_turn (n - 1) (λ i. y ∷ []) ++ y ∷ []))
    nodes_left =
        let joints : n + 1 - 1 ≡ n - 1 + 1 = omega arith in
        ap (λ (zs : List Domain). x ∷ y ∷ zs)
        ((λ i. turn_more (λ i. a.inner) n i ++ in_turn (joints i) (λ i. y ∷ []))
        ∙ (λ i. (in_turn n (λ i. a.inner) ++ a.inner) ++ turn_more (λ i. y ∷ []) (n - 1) i)
        ∙ append_assoc (in_turn n (λ i. a.inner)) a.inner (in_turn (n - 1) (λ i. y ∷ []) ++ y ∷ []))

    nodes_right : right.ends ++ right.inner ≡ (x ∷ y ∷ in_turn n (λ i. a.inner)) ++ (in_turn (n - 1) (λ i. y ∷ []) ++ (a.inner ++ y ∷ []))
    nodes_right =
        ap (λ (zs : List Domain). x ∷ y ∷ zs)
        (append_assoc (in_turn n (λ i. a.inner) ++ in_turn (n - 1) (λ i. y ∷ [])) a.inner (y ∷ []) ∙ append_assoc (in_turn n (λ i. a.inner)) (in_turn (n - 1) (λ i. y ∷ [])) (a.inner ++ y ∷ []))

    domains_are : (k : ℕ) → slice_get (right.ends ++ right.inner) (to k) ≡ slice_get (left.ends ++ left.inner) k
    domains_are k =
        let ds = x ∷ y ∷ in_turn n (λ i. a.inner) in
        let ks = in_turn (n - 1) (λ i. y ∷ []) in
        let from : 2 + n * length a.inner ≡ length ds = omega (arith, length_turns (λ i. a.inner) (length a.inner) (λ i. refl) n) in
        let count : n - 1 ≡ length ks = omega (arith, length_turns (λ i. y ∷ []) 1 (λ i. refl) (n - 1)) in
        (λ i. slice_get (nodes_right i) (swapped (from i) (length a.inner) (count i) k)) ∙ swapped_get ds a.inner ks (y ∷ []) k ∙ (λ i. slice_get (sym nodes_left i) k)

    same_plan : PlanButNodes to (swapped (2 + n * length a.inner) (n - 1) (length a.inner)) left right
    same_plan = record {
      back_to = swapped_back (2 + n * length a.inner) (length a.inner) (n - 1);
      to_back = swapped_back (2 + n * length a.inner) (n - 1) (length a.inner);
      ends = refl;
      count = ap (λ (z : Size). z.inner) more_size;
      first = swapped_low (2 + n * length a.inner) (length a.inner) (n - 1) 0 (omega arith);
      second = swapped_low (2 + n * length a.inner) (length a.inner) (n - 1) 1 (omega arith);
      domains = domains_are;
      variables = omega arith;
      rows = sym rows_same;
      laws = sym laws_same;
    }

  is_counted : (k : ℕ) → 1 ≤ k → k ≤ most_copies → is_count k ≡ true
  is_counted k l h = and_from _ _ (le-leb 1 k l) (le-leb k most_copies h)

  again : (t r : Bool) → (t && (t && r)) ≡ (t && r)
  again true r = refl
  again false r = refl

  abbrev meets : Bool
  meets = ends_meet (plan part)

  left_is : n < most_copies → repeated (n + 1) (plan part) ≡ cond (meets && is_small (size_in left)) (plan left) void
  left_is few =
      ap (λ (t : Bool). cond ((meets && t) && is_small (size_in left)) (plan left) void) (is_counted (n + 1) (omega arith) (omega arith))
      ∙ ap (λ (t : Bool). cond (t && is_small (size_in left)) (plan left) void) (and_true meets)

  right_is : n < most_copies → series (repeated n (plan part)) (plan part) ≡ cond (meets && is_small (size_in left)) (plan right) void
  right_is few =
      inside_first copies part (meets && is_count n) (is_small (size_in copies)) (λ h. small_first (size_in copies) (size_in part) (ap is_small (sym (series_size copies part refl refl)) ∙ h))
      ∙ ap (λ (t : Bool). cond ((meets && t) && (meet (plan copies) (plan part) && is_small (size_in right))) (plan right) void) (is_counted n some (omega arith))
      ∙ (λ i. cond (and_true meets i && (same_either_way (domain_at (plan copies) 1) (domain_at (plan part) 0) i && is_small (more_size i))) (plan right) void)
      ∙ ap (λ (t : Bool). cond t (plan right) void) (again meets (is_small (size_in left)))

  more : n < most_copies → MeansButNodes (last_behind n (plan part)) (last_before n (plan part)) (repeated (n + 1) (plan part)) (series (repeated n (plan part)) (plan part))
  more few =
      let same = same_if (last_behind n (plan part)) (last_before n (plan part)) (meets && is_small (size_in left)) left right (λ h. same_plan (and_parts meets (is_small (size_in left)) h).1) in
      subst (λ m. MeansButNodes (last_behind n (plan part)) (last_before n (plan part)) m (series (repeated n (plan part)) (plan part))) (sym (left_is few))
      (subst (MeansButNodes (last_behind n (plan part)) (last_before n (plan part)) (cond (meets && is_small (size_in left)) (plan left) void)) (sym (right_is few)) same)

pub one_copy_more : OneCopyMore
one_copy_more n some few void p = tt
one_copy_more n some few (plan a) p =
    by_ends
    (λ es. MeansButNodes (last_behind n (plan (with_ends es a))) (last_before n (plan (with_ends es a))) (repeated (n + 1) (plan (with_ends es a))) (series (repeated n (plan (with_ends es a))) (plan (with_ends es a))))
    (λ x y. more a p n some x y few) a.ends p.two_ends
