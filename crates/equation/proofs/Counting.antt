-- How many equations and terms there are in all.
use Rattle.std.proofs.Common.{◌≡◌, ℕ, ◌+◌, List, [], ◌∷◌, ◌++◌, map, length, refl, ap, arith}
use Rattle.std.specs.List.{sum_by}
use Rattle.std.proofs.lemmas.List.FromFn.{length-map-range_with_len}
use Rattle.std.proofs.lemmas.List.{length-append, length-map}
use Rattle.netlist.specs.declared.rows.Row.{Row}
use Rattle.netlist.specs.declared.terms.Term.{Term}
use Rattle.netlist.specs.Netlist.{Netlist, term_count}
use Rattle.netlist.specs.Pieces.{flat}
use Rattle.netlist.specs.Sound.{Sound}
use Rattle.equation.specs.declared.listing.Listing.{Listing}
use Rattle.equation.specs.Equations.{node_sum, node_sums, row_equation, listed}
use Rattle.equation.specs.Listing.{listing_of}
use Rattle.equation.specs.Writing.{row_size}
use Rattle.equation.proofs.Sizing.{sizes_are}
use Rattle.netlist.proofs.Joined.{joined_append}

pub length_flat : {X : Type 0} (xss : List (List X)) → length (flat xss) ≡ term_count xss
length_flat [] = refl
length_flat (xs ∷ xss) = omega (arith, length-append xs (flat xss), length_flat xss)

module _ (laws : List (List Term)) (rows : List (Row ℕ)) (nodes variables : ℕ) where
  pub length_listed : length (listed laws rows nodes variables) ≡ length laws + nodes + length rows
  length_listed =
      let sums = node_sums rows nodes in
      let own = map (row_equation variables) rows in
      omega (
        arith,
        length-append laws (sums ++ own),
        length-append sums own,
        length-map-range_with_len (node_sum rows) 0 nodes,
        length-map rows (row_equation variables),
      )

  pub flat_listed : length (flat (listed laws rows nodes variables)) ≡ length (flat laws) + (length (flat (node_sums rows nodes)) + length (flat (map (row_equation variables) rows)))
  flat_listed =
      let sums = node_sums rows nodes in
      let own = map (row_equation variables) rows in
      omega (
        arith,
        ap length (joined_append (λ (e : List Term). e) laws (sums ++ own)),
        length-append (flat laws) (flat (sums ++ own)),
        ap length (joined_append (λ (e : List Term). e) sums own),
        length-append (flat sums) (flat own),
      )

-- of a sound netlist
module _ (b : Netlist) (s : Sound b) where
  pub terms_are : (listing_of b).terms ≡ term_count b.laws + sum_by row_size b.rows
  terms_are =
      omega (
        arith,
        flat_listed b.laws b.rows (length b.domains) b.variables,
        length_flat b.laws,
        sizes_are b.domains b.variables b.rows s.joined,
      )

  pub equations_are : (listing_of b).equations ≡ length b.laws + length b.domains + length b.rows
  equations_are = length_listed b.laws b.rows (length b.domains) b.variables

-- two that agree in both counts are one
pub listing_same : (x y : Listing) → x.terms ≡ y.terms → x.equations ≡ y.equations → x ≡ y
listing_same x y same_terms same_equations = λ i. record { terms = same_terms i; equations = same_equations i }
