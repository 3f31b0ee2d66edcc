-- What two netlists that are alike name: the one names what the other does, under other numbers.
use Rattle.std.proofs.Common.{ℕ}
use Rattle.std.specs.List.{AllByRecursion, flat_map}
use Rattle.netlist.specs.Netlist.{Netlist}
use Rattle.likeness.specs.Alike.{nodes_of, nodes_in, variables_in, Alike}
use Rattle.netlist.specs.Renaming.{renamed_row, renamed_law}
use Rattle.likeness.proofs.Listing.{all_append, all_of_append, all_of_flat, names_forth, names_back}
use Rattle.likeness.proofs.Pairing.{laws_forth, laws_back}
use Rattle.likeness.proofs.Renaming.{of_row, of_law, nodes_renamed, row_renamed, law_renamed}

-- what holds of each variable that occurs, by rows and by laws
module _ (b : Netlist) (P : ℕ → Type 0) (h : AllByRecursion P (variables_in b)) where
  pub by_rows : AllByRecursion (λ row. AllByRecursion P (of_row row)) b.rows
  by_rows = all_of_flat P of_row b.rows (all_of_append P (flat_map of_row b.rows) (flat_map of_law b.laws) h).0

  pub by_laws : AllByRecursion (λ law. AllByRecursion P (of_law law)) b.laws
  by_laws = all_of_flat P of_law b.laws (all_of_append P (flat_map of_row b.rows) (flat_map of_law b.laws) h).1

-- what holds of the new numbers of all that occurs in the first holds of all that occurs in the second, and back
module _ (b c : Netlist) (s : Alike b c) (P : ℕ → Type 0) where
  pub nodes_forth : AllByRecursion (λ n. P (s.there.node n)) (nodes_in b) → AllByRecursion P (nodes_in c)
  nodes_forth = names_forth (renamed_row s.there) b.rows c.rows s.rows nodes_of s.there.node (nodes_renamed s.there) P

  pub nodes_back : AllByRecursion P (nodes_in c) → AllByRecursion (λ n. P (s.there.node n)) (nodes_in b)
  nodes_back = names_back (renamed_row s.there) b.rows c.rows s.rows nodes_of s.there.node (nodes_renamed s.there) P

  pub variables_forth : AllByRecursion (λ v. P (s.there.variable v)) (variables_in b) → AllByRecursion P (variables_in c)
  variables_forth h =
      let both = all_of_append (λ v. P (s.there.variable v)) (flat_map of_row b.rows) (flat_map of_law b.laws) h in
      all_append P (flat_map of_row c.rows) (flat_map of_law c.laws)
      (names_forth (renamed_row s.there) b.rows c.rows s.rows of_row s.there.variable (row_renamed s.there) P both.0)
      (laws_forth (renamed_law s.there) b.laws c.laws s.laws s.there.variable (law_renamed s.there) P both.1)

  pub variables_back : AllByRecursion P (variables_in c) → AllByRecursion (λ v. P (s.there.variable v)) (variables_in b)
  variables_back h =
      let both = all_of_append P (flat_map of_row c.rows) (flat_map of_law c.laws) h in
      all_append (λ v. P (s.there.variable v)) (flat_map of_row b.rows) (flat_map of_law b.laws)
      (names_back (renamed_row s.there) b.rows c.rows s.rows of_row s.there.variable (row_renamed s.there) P both.0)
      (laws_back (renamed_law s.there) b.laws c.laws s.laws s.there.variable (law_renamed s.there) P both.1)
