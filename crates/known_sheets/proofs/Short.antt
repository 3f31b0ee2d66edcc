-- A line with too few fields for its letter goes wrong one past its end.
use Rattle.std.proofs.Common.{◌≡◌, ℕ, zero, suc, ◌*◌, ◌≤◌, List, [], ◌∷◌, length, length-append, refl, ap, arith, codes, inl, inr}
use Rattle.text.specs.declared.kinds.Kind.{Kind}
use Rattle.text.specs.declared.kinds.Kind.TheVariants.{Number, Coefficient}
use Rattle.text.specs.Faults.{FaultAt}
use Rattle.text.specs.Grammar.{Bytes, Allowed, Text, Matches, kinds_repeated, spaced, branch_kinds}
use Rattle.known_sheets.specs.Table.{half_branch}
use Rattle.known_sheets.proofs.Allowed.{grouped}

some : (k : Kind) (f : Bytes) → Text k f → 1 ≤ length f
some Number f p = p.some
some Coefficient f (inl p) = p.some
some Coefficient f (inr p) = omega (arith, ap length p.1)

-- each field has a byte at least, and a blank in front
long : (ks : List Kind) (fs : List Bytes) → Matches ks fs → 2 * length ks ≤ length (spaced fs)
long [] fs m = omega arith
long (k ∷ ks) [] m = absurd m
long (k ∷ ks) (f ∷ fs) m = omega (arith, length-append f (spaced fs), some k f m.0, long ks fs m.1)

too_few : (m : ℕ) (fs : List Bytes) → 1 ≤ m → m ≤ 1 → Matches (kinds_repeated m branch_kinds) fs → codes " 0 1 0" ≡ spaced fs → ⊥
too_few zero fs low high matches e = omega arith
too_few (suc zero) fs low high matches e = omega (arith, long branch_kinds fs matches, ap length e)
too_few (suc (suc m)) fs low high matches e = omega arith

pub half_branch_fault : FaultAt Allowed half_branch 8
half_branch_fault = record {
  first = omega arith;
  within = omega arith;
  begins = (codes " 1", grouped branch_kinds 1 1 (codes "0" ∷ codes "1" ∷ codes "0" ∷ codes "1" ∷ []) refl);
  stops = λ l b. omega arith;
  refused = λ g. too_few g.0 g.1 g.2 g.3 g.4 g.5;
}
