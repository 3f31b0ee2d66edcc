-- Three parts in series, taken together in two ways.
use Rattle.std.proofs.Common.{◌≡◌, ℕ, ◌+◌, ◌≤◌, true, List, [], ◌∷◌, ◌++◌, map, length, sym, refl, ap, ◌∙◌, arith}
use Rattle.std.specs.List.{slice_get}
use Rattle.std.proofs.lemmas.List.{append-nil, append_assoc, map-append, length-append, length_push}
use Rattle.netlist.specs.declared.domains.Domain.{Domain}
use Rattle.netlist.specs.Renaming.{Renaming, renamed_row}
use Rattle.assembly.specs.Plans.{PlanRow, PlanTerm, most_of_plan}
use Rattle.assembly.specs.Meaning.{Plan, size_in, is_small}
use Rattle.layers.proofs.Small.{small_bounds}
use Rattle.layers.specs.declared.renumbering.Renumbering.{Renumbering}
use Rattle.layers.specs.Renumbered.{moved_variable, moved_row, moved_term}
use Rattle.series.specs.Series.{in_series, front_place, back_place}
use Rattle.assembly_laws.specs.ButNodes.{nodes_only, PlanButNodes}
use Rattle.assembly_laws.proofs.Swapped.{swapped_get}
use Rattle.assembly_laws.proofs.Turned.{before, behind, behind_low, behind_before, before_behind}
use Rattle.assembly_laws.proofs.Renamed.{in_layer, then, rows_moved, rows_twice}
use Rattle.assembly_laws.proofs.Lawful.{laws_as, laws_twice}
use Rattle.assembly_laws.proofs.Placing.{with_ends}
use Rattle.assembly_laws.proofs.Three.{first_node, second_node, third_node, first_variable, second_variable, third_variable}

-- One that stands before others, or behind them: what stands where.
turned_get : {X : Type 0} (ds ks : List X) (y : X) (n : ℕ) → slice_get (ds ++ (ks ++ y ∷ [])) (behind (length ds) (length ks) n) ≡ slice_get (ds ++ (y ∷ ks)) n
turned_get {X} ds ks y n = swapped_get ds (y ∷ []) ks [] n ∙ ap (λ (zs : List X). slice_get (ds ++ (y ∷ zs)) n) (append-nil ks)

-- Rows and laws that are moved twice.
module _ (r q : Renumbering) where
  abbrev pub both : Renaming
  both = then (in_layer r) (in_layer q)

  pub rows_both : (rows : List PlanRow) → map (moved_row q) (map (moved_row r) rows) ≡ map (renamed_row both) rows
  rows_both rows = ap (map (moved_row q)) (rows_moved r rows) ∙ rows_moved q (map (renamed_row (in_layer r)) rows) ∙ rows_twice (in_layer r) (in_layer q) rows

  pub laws_both : (laws : List (List PlanTerm)) → map (map (moved_term q)) (map (map (moved_term r)) laws) ≡ laws_as (λ v. moved_variable q (moved_variable r v)) laws
  laws_both laws = laws_twice (moved_variable r) (moved_variable q) laws

-- renamings that agree everywhere
pub rows_agree : (f g : Renaming) → ((k : ℕ) → f.node k ≡ g.node k) → ((v : ℕ) → f.variable v ≡ g.variable v) → (rows : List PlanRow) → map (renamed_row f) rows ≡ map (renamed_row g) rows
rows_agree f g node variable rows = (λ i. map (renamed_row (record { node = λ k. node k i; variable = λ v. variable v i })) rows)

pub laws_agree : (f g : ℕ → ℕ) → ((v : ℕ) → f v ≡ g v) → (laws : List (List PlanTerm)) → laws_as f laws ≡ laws_as g laws
laws_agree f g e laws = (λ i. laws_as (λ v. e v i) laws)

module _ (x y u v s t : Domain) (a b c : Plan) where
  abbrev pub one : Plan
  one = with_ends (x ∷ y ∷ []) a

  abbrev pub two : Plan
  two = with_ends (u ∷ v ∷ []) b

  abbrev pub three : Plan
  three = with_ends (s ∷ t ∷ []) c

  abbrev pub one_two : Plan
  one_two = in_series one two

  abbrev pub two_three : Plan
  two_three = in_series two three

  abbrev pub left : Plan
  left = in_series one_two three

  abbrev pub right : Plan
  right = in_series one two_three

  inner_left : length one_two.inner ≡ length a.inner + length b.inner + 1
  inner_left = omega (arith, length_push (a.inner ++ b.inner) y, length-append a.inner b.inner)

  inner_right : length two_three.inner ≡ length b.inner + length c.inner + 1
  inner_right = omega (arith, length_push (b.inner ++ c.inner) v, length-append b.inner c.inner)

  abbrev to : ℕ → ℕ
  to = behind (2 + length a.inner + length b.inner) (length c.inner + 1)

  -- what is one part's in one part of the layer and is moved with it
  abbrev first_left : Renaming
  first_left = both (front_place (size_in one) (size_in two)) (front_place (size_in one_two) (size_in three))

  abbrev second_left : Renaming
  second_left = both (back_place (size_in one) (size_in two)) (front_place (size_in one_two) (size_in three))

  abbrev third_left : Renaming
  third_left = in_layer (back_place (size_in one_two) (size_in three))

  abbrev first_right : Renaming
  first_right = in_layer (front_place (size_in one) (size_in two_three))

  abbrev second_right : Renaming
  second_right = both (front_place (size_in two) (size_in three)) (back_place (size_in one) (size_in two_three))

  abbrev third_right : Renaming
  third_right = both (back_place (size_in two) (size_in three)) (back_place (size_in one) (size_in two_three))

  rows_left : left.rows ≡ (map (renamed_row first_left) a.rows ++ map (renamed_row second_left) b.rows) ++ map (renamed_row third_left) c.rows
  rows_left =
      let f = front_place (size_in one_two) (size_in three) in
      (λ i. map-append (moved_row f) (map (moved_row (front_place (size_in one) (size_in two))) a.rows) (map (moved_row (back_place (size_in one) (size_in two))) b.rows) i ++ rows_moved (back_place (size_in one_two) (size_in three)) c.rows i)
      ∙ (λ i. (rows_both (front_place (size_in one) (size_in two)) f a.rows i ++ rows_both (back_place (size_in one) (size_in two)) f b.rows i) ++ map (renamed_row third_left) c.rows)

  rows_right : right.rows ≡ map (renamed_row first_right) a.rows ++ (map (renamed_row second_right) b.rows ++ map (renamed_row third_right) c.rows)
  rows_right =
      let f = back_place (size_in one) (size_in two_three) in
      (λ i. rows_moved (front_place (size_in one) (size_in two_three)) a.rows i ++ map-append (moved_row f) (map (moved_row (front_place (size_in two) (size_in three))) b.rows) (map (moved_row (back_place (size_in two) (size_in three))) c.rows) i)
      ∙ (λ i. map (renamed_row first_right) a.rows ++ (rows_both (front_place (size_in two) (size_in three)) f b.rows i ++ rows_both (back_place (size_in two) (size_in three)) f c.rows i))

  laws_left : left.laws ≡ (laws_as first_left.variable a.laws ++ laws_as second_left.variable b.laws) ++ laws_as third_left.variable c.laws
  laws_left =
      let f = front_place (size_in one_two) (size_in three) in
      ap (λ (laws : List (List PlanTerm)). laws ++ laws_as third_left.variable c.laws)
      (map-append (map (moved_term f)) (map (map (moved_term (front_place (size_in one) (size_in two)))) a.laws) (map (map (moved_term (back_place (size_in one) (size_in two)))) b.laws)
      ∙ (λ i. laws_both (front_place (size_in one) (size_in two)) f a.laws i ++ laws_both (back_place (size_in one) (size_in two)) f b.laws i))

  laws_right : right.laws ≡ laws_as first_right.variable a.laws ++ (laws_as second_right.variable b.laws ++ laws_as third_right.variable c.laws)
  laws_right =
      let f = back_place (size_in one) (size_in two_three) in
      ap (λ (laws : List (List PlanTerm)). laws_as first_right.variable a.laws ++ laws)
      (map-append (map (moved_term f)) (map (map (moved_term (front_place (size_in two) (size_in three)))) b.laws) (map (map (moved_term (back_place (size_in two) (size_in three)))) c.laws)
      ∙ (λ i. laws_both (front_place (size_in two) (size_in three)) f b.laws i ++ laws_both (back_place (size_in two) (size_in three)) f c.laws i))

  nodes_left : left.ends ++ left.inner ≡ (x ∷ t ∷ (a.inner ++ b.inner)) ++ (y ∷ (c.inner ++ v ∷ []))
  nodes_left =
      ap (λ (zs : List Domain). x ∷ t ∷ zs)
      (append_assoc (a.inner ++ b.inner ++ (y ∷ [])) c.inner (v ∷ []) ∙ append_assoc (a.inner ++ b.inner) (y ∷ []) (c.inner ++ (v ∷ [])))

  nodes_right : right.ends ++ right.inner ≡ (x ∷ t ∷ (a.inner ++ b.inner)) ++ ((c.inner ++ v ∷ []) ++ y ∷ [])
  nodes_right =
      ap (λ (zs : List Domain). x ∷ t ∷ zs)
      (ap (λ (zs : List Domain). (a.inner ++ zs) ++ (y ∷ [])) (append_assoc b.inner c.inner (v ∷ []))
      ∙ ap (λ (zs : List Domain). zs ++ (y ∷ [])) (sym (append_assoc a.inner b.inner (c.inner ++ (v ∷ []))))
      ∙ append_assoc (a.inner ++ b.inner) (c.inner ++ (v ∷ [])) (y ∷ []))

  domains_are : (n : ℕ) → slice_get (right.ends ++ right.inner) (to n) ≡ slice_get (left.ends ++ left.inner) n
  domains_are n =
      let ds = x ∷ t ∷ (a.inner ++ b.inner) in
      let ks = c.inner ++ (v ∷ []) in
      let from : 2 + length a.inner + length b.inner ≡ length ds = omega (arith, length-append a.inner b.inner) in
      let count : length c.inner + 1 ≡ length ks = sym (length_push c.inner v) in
      (λ i. slice_get (nodes_right i) (behind (from i) (count i) n)) ∙ turned_get ds ks y n ∙ (λ i. slice_get (sym nodes_left i) n)

  inner_whole : length left.inner ≡ length a.inner + length b.inner + length c.inner + 2
  inner_whole = omega (arith, length_push (one_two.inner ++ c.inner) v, length-append one_two.inner c.inner, inner_left)

  module _ (small : is_small (size_in left) ≡ true) where
    few_nodes : length a.inner + length b.inner + length c.inner + 2 ≤ most_of_plan
    few_nodes = omega (arith, inner_whole, (small_bounds (size_in left) small).nodes)

    few_variables : a.variables + b.variables + c.variables ≤ most_of_plan
    few_variables = (small_bounds (size_in left) small).variables

    -- the variables of each part
    of_first : (w : ℕ) → first_left.variable w ≡ first_right.variable w
    of_first = first_variable (size_in one) (size_in two) (size_in three) (size_in one_two) (size_in two_three) refl refl few_variables

    of_second : (w : ℕ) → second_left.variable w ≡ second_right.variable w
    of_second = second_variable (size_in one) (size_in two) (size_in three) (size_in one_two) (size_in two_three) refl refl few_variables

    of_third : (w : ℕ) → third_left.variable w ≡ third_right.variable w
    of_third = third_variable (size_in one) (size_in two) (size_in three) (size_in one_two) (size_in two_three) refl refl few_variables

    first_rows : map (renamed_row (nodes_only to)) (map (renamed_row first_left) a.rows) ≡ map (renamed_row first_right) a.rows
    first_rows =
        rows_twice first_left (nodes_only to) a.rows
        ∙ rows_agree (then first_left (nodes_only to)) first_right (first_node (size_in one) (size_in two) (size_in three) (size_in one_two) (size_in two_three) inner_left inner_right few_nodes) of_first a.rows

    second_rows : map (renamed_row (nodes_only to)) (map (renamed_row second_left) b.rows) ≡ map (renamed_row second_right) b.rows
    second_rows =
        rows_twice second_left (nodes_only to) b.rows
        ∙ rows_agree (then second_left (nodes_only to)) second_right (second_node (size_in one) (size_in two) (size_in three) (size_in one_two) (size_in two_three) inner_left inner_right few_nodes) of_second b.rows

    third_rows : map (renamed_row (nodes_only to)) (map (renamed_row third_left) c.rows) ≡ map (renamed_row third_right) c.rows
    third_rows =
        rows_twice third_left (nodes_only to) c.rows
        ∙ rows_agree (then third_left (nodes_only to)) third_right (third_node (size_in one) (size_in two) (size_in three) (size_in one_two) (size_in two_three) inner_left inner_right few_nodes) of_third c.rows

    rows_same : map (renamed_row (nodes_only to)) left.rows ≡ right.rows
    rows_same =
        let f = renamed_row (nodes_only to) in
        ap (map f) rows_left
        ∙ map-append f (map (renamed_row first_left) a.rows ++ map (renamed_row second_left) b.rows) (map (renamed_row third_left) c.rows)
        ∙ ap (λ (rows : List PlanRow). rows ++ map f (map (renamed_row third_left) c.rows)) (map-append f (map (renamed_row first_left) a.rows) (map (renamed_row second_left) b.rows))
        ∙ (λ i. (first_rows i ++ second_rows i) ++ third_rows i)
        ∙ append_assoc (map (renamed_row first_right) a.rows) (map (renamed_row second_right) b.rows) (map (renamed_row third_right) c.rows)
        ∙ sym rows_right

    laws_same : left.laws ≡ right.laws
    laws_same =
        laws_left
        ∙ (λ i. (laws_agree first_left.variable first_right.variable of_first a.laws i ++ laws_agree second_left.variable second_right.variable of_second b.laws i) ++ laws_agree third_left.variable third_right.variable of_third c.laws i)
        ∙ append_assoc (laws_as first_right.variable a.laws) (laws_as second_right.variable b.laws) (laws_as third_right.variable c.laws) ∙ sym laws_right

    pub same_plan : PlanButNodes to (before (2 + length a.inner + length b.inner) (length c.inner + 1)) left right
    same_plan = record {
      back_to = before_behind (2 + length a.inner + length b.inner) (length c.inner + 1);
      to_back = behind_before (2 + length a.inner + length b.inner) (length c.inner + 1);
      ends = refl;
      count = omega (arith, inner_whole, length_push (a.inner ++ two_three.inner) y, length-append a.inner two_three.inner, inner_right);
      first = behind_low (2 + length a.inner + length b.inner) (length c.inner + 1) 0 (omega arith);
      second = behind_low (2 + length a.inner + length b.inner) (length c.inner + 1) 1 (omega arith);
      domains = domains_are;
      variables = omega arith;
      rows = sym rows_same;
      laws = sym laws_same;
    }
