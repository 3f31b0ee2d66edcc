-- Netlists that differ in the numbers of their nodes alone are alike.
use Rattle.std.proofs.Common.{◌≡◌, ℕ, ◌<◌, true, List, [], ◌∷◌, map, length, sym, refl, ◌∙◌, subst}
use Rattle.std.specs.List.{AllByRecursion, list_all}
use Rattle.std.specs.List.Sorted.{IsPermutation}
use Rattle.std.proofs.lemmas.Bool.{and_parts, ltb-true}
use Rattle.std.proofs.lemmas.List.{map-id}
use Rattle.std.proofs.lemmas.List.Sorted.{IsPermutation-refl}
use Rattle.netlist.specs.declared.rows.Row.{Row}
use Rattle.netlist.specs.declared.rows.Row.TheVariants.{Branch, Earth}
use Rattle.netlist.specs.declared.terms.Term.{Term}
use Rattle.likeness.specs.Alike.{Alike, nodes_in, variables_in}
use Rattle.likeness.proofs.Pairing.{same_laws}
use Rattle.netlist.specs.Renaming.{renamed_row, renamed_law}
use Rattle.netlist.specs.Netlist.{Netlist}
use Rattle.netlist.specs.Sound.{joins}
use Rattle.assembly_laws.specs.ButNodes.{nodes_only, SameButNodes}

all_of : {X : Type 0} (P : X → Type 0) → ((x : X) → P x) → (xs : List X) → AllByRecursion P xs
all_of P f [] = tt
all_of P f (x ∷ xs) = (f x, all_of P f xs)

pub laws_kept : (to : ℕ → ℕ) (laws : List (List Term)) → map (renamed_law (nodes_only to)) laws ≡ laws
laws_kept to [] = refl
laws_kept to (law ∷ laws) = (λ i. map-id law i ∷ laws_kept to laws i)

pub same_alike : (to back : ℕ → ℕ) (b c : Netlist) → SameButNodes to back b c → Alike b c
same_alike to back b c s = record {
  there = nodes_only to;
  back = nodes_only back;
  nodes = all_of (λ n. back (to n) ≡ n) s.back_to (nodes_in b);
  variables = all_of (λ v. v ≡ v) (λ v. refl) (variables_in b);
  rows = subst (IsPermutation (map (renamed_row (nodes_only to)) b.rows)) (sym s.rows) (IsPermutation-refl (map (renamed_row (nodes_only to)) b.rows));
  laws = same_laws _ c.laws (subst (IsPermutation (map (renamed_law (nodes_only to)) b.laws)) (laws_kept to b.laws ∙ sym s.laws) (IsPermutation-refl (map (renamed_law (nodes_only to)) b.laws)));
}

-- a renaming that keeps the nodes that are drawn keeps the rows among them
module _ (to : ℕ → ℕ) (domains : List ℕ) (kept : (n : ℕ) → n < length domains → to n ≡ n) where
  row_kept : (row : Row ℕ) → joins domains row ≡ true → renamed_row (nodes_only to) row ≡ row
  row_kept (Branch flow across first second) h =
      let t = and_parts _ _ h in
      let u = and_parts _ _ t.1 in
      (λ i. Branch flow across (kept first (ltb-true _ _ t.0) i) (kept second (ltb-true _ _ u.0) i))
  row_kept (Earth flow across node) h = (λ i. Earth flow across (kept node (ltb-true _ _ h) i))

  pub rows_kept : (rows : List (Row ℕ)) → list_all (joins domains) rows ≡ true → map (renamed_row (nodes_only to)) rows ≡ rows
  rows_kept [] h = refl
  rows_kept (row ∷ rows) h =
      let t = and_parts (joins domains row) (list_all (joins domains) rows) h in
      (λ i. row_kept row t.0 i ∷ rows_kept rows t.1 i)
