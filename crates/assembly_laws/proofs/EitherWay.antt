-- Three parts in series are void either way, or neither way.
use Rattle.std.proofs.Common.{◌≡◌, ℕ, ◌+◌, Bool, true, false, cond, ◌&&◌, [], ◌∷◌, ◌++◌, map, length, take, drop, sym, refl, ap, ◌∙◌, subst, arith}
use Rattle.std.proofs.lemmas.Bool.{and_parts, and_right, both_ways}
use Rattle.std.proofs.lemmas.List.{length-append, length-map}
use Rattle.netlist.specs.declared.domains.Domain.{Domain}
use Rattle.assembly.specs.declared.plans.Size.{Size}
use Rattle.assembly.specs.Meaning.{Meaning, void, plan, Plan, size_in, is_small}
use Rattle.layers.specs.Renumbered.{moved_row, moved_term}
use Rattle.layers.specs.Two.{layer_of_two, both_sizes}
use Rattle.layers.proofs.Ends.{by_ends, by_both_ends}
use Rattle.layers.proofs.Small.{size_with, small_bounds, small_from}
use Rattle.series.specs.Series.{in_series, front_place, back_place, meet, series}
use Rattle.assembly_laws.specs.ButNodes.{MeansButNodes, PlanButNodes}
use Rattle.assembly_laws.specs.Associative.{joint_to_back, joint_to_front, SeriesIsAssociative}
use Rattle.assembly_laws.proofs.Placing.{with_ends}
use Rattle.assembly_laws.proofs.Associative.{one, two, three, one_two, two_three, left, right, same_plan}

-- how much two parts in series have
pub series_size : (p q : Plan) → length (take 1 p.ends ++ drop 1 q.ends) ≡ 2 → length (drop 1 p.ends) ≡ 1 → size_in (in_series p q) ≡ both_sizes 1 (size_in p) (size_in q)
series_size p q ends last =
    let f = front_place (size_in p) (size_in q) in
    let g = back_place (size_in p) (size_in q) in
    let inner : length (in_series p q).inner ≡ length p.inner + length q.inner + 1 = omega (arith, length-append (p.inner ++ q.inner) (drop 1 p.ends), length-append p.inner q.inner) in
    let rows : length (in_series p q).rows ≡ length p.rows + length q.rows =
    omega (arith, length-append (map (moved_row f) p.rows) (map (moved_row g) q.rows), length-map p.rows (moved_row f), length-map q.rows (moved_row g)) in
    let laws : length (in_series p q).laws ≡ length p.laws + length q.laws =
    omega (arith, length-append (map (map (moved_term f)) p.laws) (map (map (moved_term g)) q.laws), length-map p.laws (map (moved_term f)), length-map q.laws (map (moved_term g))) in
    (λ i. size_with (ends i) (inner i) (p.variables + q.variables) (rows i) (laws i))

either_size : (s t w : Size) → both_sizes 1 (both_sizes 1 s t) w ≡ both_sizes 1 s (both_sizes 1 t w)
either_size s t w =
    let inner : s.inner + t.inner + 1 + w.inner + 1 ≡ s.inner + (t.inner + w.inner + 1) + 1 = omega arith in
    let variables : s.variables + t.variables + w.variables ≡ s.variables + (t.variables + w.variables) = omega arith in
    let rows : s.rows + t.rows + w.rows ≡ s.rows + (t.rows + w.rows) = omega arith in
    let laws : s.laws + t.laws + w.laws ≡ s.laws + (t.laws + w.laws) = omega arith in
    (λ i. size_with 2 (inner i) (variables i) (rows i) (laws i))

-- where the layer is small its parts are
pub small_first : (s t : Size) → is_small (both_sizes 1 s t) ≡ true → is_small s ≡ true
small_first s t h =
    let b = small_bounds (both_sizes 1 s t) h in
    small_from s (record { nodes = omega (arith, b.nodes); variables = omega (arith, b.variables); rows = omega (arith, b.rows); laws = omega (arith, b.laws) })

small_second : (s t : Size) → is_small (both_sizes 1 s t) ≡ true → is_small t ≡ true
small_second s t h =
    let b = small_bounds (both_sizes 1 s t) h in
    small_from t (record { nodes = omega (arith, b.nodes); variables = omega (arith, b.variables); rows = omega (arith, b.rows); laws = omega (arith, b.laws) })

never : (m s : Bool) → (s ≡ true → false ≡ true) → (m && s) ≡ false
never false s h = refl
never true false h = refl
never true true h = absurd (both_ways false refl (h refl))

-- Nested layers are void unless both pairs meet and the whole is small, if a part is small where the whole is.
pub inside_first : (p q : Plan) (t r : Bool) → (is_small (size_in (in_series p q)) ≡ true → r ≡ true) → layer_of_two meet in_series (cond (t && r) (plan p) void) (plan q) ≡ cond (t && (meet (plan p) (plan q) && is_small (size_in (in_series p q)))) (plan (in_series p q)) void
inside_first p q false r h = refl
inside_first p q true true h = refl
inside_first p q true false h = ap (λ (b : Bool). cond b (plan (in_series p q)) void) (sym (never (meet (plan p) (plan q)) (is_small (size_in (in_series p q))) h))

inside_second : (p q : Plan) (t r : Bool) → (is_small (size_in (in_series p q)) ≡ true → r ≡ true) → layer_of_two meet in_series (plan p) (cond (t && r) (plan q) void) ≡ cond (meet (plan p) (plan q) && (t && is_small (size_in (in_series p q)))) (plan (in_series p q)) void
inside_second p q false r h = ap (λ (b : Bool). cond b (plan (in_series p q)) void) (sym (and_right (meet (plan p) (plan q)) false refl))
inside_second p q true true h = refl
inside_second p q true false h = ap (λ (b : Bool). cond b (plan (in_series p q)) void) (sym (never (meet (plan p) (plan q)) (is_small (size_in (in_series p q))) h))

pub same_if : (to back : ℕ → ℕ) (t : Bool) (p q : Plan) → (t ≡ true → PlanButNodes to back p q) → MeansButNodes to back (cond t (plan p) void) (cond t (plan q) void)
same_if to back true p q f = f refl
same_if to back false p q f = tt

module _ (a b c : Plan) (x y u v s t : Domain) where
  abbrev first : Plan
  first = one x y u v s t a b c

  abbrev second : Plan
  second = two x y u v s t a b c

  abbrev third : Plan
  third = three x y u v s t a b c

  abbrev front : Plan
  front = one_two x y u v s t a b c

  abbrev back : Plan
  back = two_three x y u v s t a b c

  abbrev there : Plan
  there = left x y u v s t a b c

  abbrev here : Plan
  here = right x y u v s t a b c

  small_either_way : is_small (size_in here) ≡ is_small (size_in there)
  small_either_way =
      ap is_small
      (series_size first back refl refl ∙ ap (both_sizes 1 (size_in first)) (series_size second third refl refl)
      ∙ sym (series_size front third refl refl ∙ ap (λ z. both_sizes 1 z (size_in third)) (series_size first second refl refl) ∙ either_size (size_in first) (size_in second) (size_in third)))

  abbrev meets : Bool
  meets = meet (plan first) (plan second) && (meet (plan second) (plan third) && is_small (size_in there))

  there_is : series (series (plan first) (plan second)) (plan third) ≡ cond meets (plan there) void
  there_is =
      inside_first front third (meet (plan first) (plan second)) (is_small (size_in front))
      (λ h. small_first (size_in front) (size_in third) (ap is_small (sym (series_size front third refl refl)) ∙ h))

  here_is : series (plan first) (series (plan second) (plan third)) ≡ cond meets (plan here) void
  here_is =
      inside_second first back (meet (plan second) (plan third)) (is_small (size_in back))
      (λ h. small_second (size_in first) (size_in back) (ap is_small (sym (series_size first back refl refl)) ∙ h))
      ∙ ap (λ (r : Bool). cond (meet (plan first) (plan second) && (meet (plan second) (plan third) && r)) (plan here) void) small_either_way

  either_way : MeansButNodes (joint_to_back (plan first) (plan second) (plan third)) (joint_to_front (plan first) (plan second) (plan third)) (series (series (plan first) (plan second)) (plan third)) (series (plan first) (series (plan second) (plan third)))
  either_way =
      let to = joint_to_back (plan first) (plan second) (plan third) in
      let from = joint_to_front (plan first) (plan second) (plan third) in
      let same = same_if to from meets there here
      (λ h. same_plan x y u v s t a b c (and_parts _ _ (and_parts (meet (plan first) (plan second)) _ h).1).1) in
      subst (λ m. MeansButNodes to from m (series (plan first) (series (plan second) (plan third)))) (sym there_is)
      (subst (MeansButNodes to from (cond meets (plan there) void)) (sym here_is) same)

void_behind : (m : Meaning) → series m void ≡ void
void_behind void = refl
void_behind (plan a) = refl

pub series_is_associative : SeriesIsAssociative
series_is_associative void n o pm pn po = tt
series_is_associative (plan a) void o pm pn po = tt
series_is_associative (plan a) (plan b) void pm pn po =
    subst (λ m. MeansButNodes (joint_to_back (plan a) (plan b) void) (joint_to_front (plan a) (plan b) void) m void) (sym (void_behind (series (plan a) (plan b)))) tt
series_is_associative (plan a) (plan b) (plan c) pm pn po =
    by_ends
    (λ es. MeansButNodes (joint_to_back (plan a) (plan b) (plan (with_ends es c))) (joint_to_front (plan a) (plan b) (plan (with_ends es c))) (series (series (plan a) (plan b)) (plan (with_ends es c))) (series (plan a) (series (plan b) (plan (with_ends es c)))))
    (λ s t. by_both_ends
    (λ es fs. MeansButNodes (joint_to_back (plan (with_ends es a)) (plan (with_ends fs b)) (plan (with_ends (s ∷ t ∷ []) c))) (joint_to_front (plan (with_ends es a)) (plan (with_ends fs b)) (plan (with_ends (s ∷ t ∷ []) c))) (series (series (plan (with_ends es a)) (plan (with_ends fs b))) (plan (with_ends (s ∷ t ∷ []) c))) (series (plan (with_ends es a)) (series (plan (with_ends fs b)) (plan (with_ends (s ∷ t ∷ []) c)))))
    (λ x y u v. either_way a b c x y u v s t) a.ends b.ends pm.two_ends pn.two_ends)
    c.ends po.two_ends
