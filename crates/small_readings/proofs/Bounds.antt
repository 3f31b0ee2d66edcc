-- What a sound netlist and small readings keep to.
use Rattle.std.proofs.Common.{◌≡◌, ℕ, zero, suc, ◌+◌, ◌^◌, ◌<◌, ◌≤◌, true, List, [], ◌∷◌, length, get_or, ℤ, pos, refl, sym, subst, ap, ◌∙◌, ⊎_elim, arith, w64}
use Rattle.std.specs.Int.RustNames.{unsigned_abs}
use Rattle.std.proofs.Math.ListN.{get_or-eq_default}
use Rattle.std.proofs.lemmas.Bool.{cases_lt}
use Rattle.std.proofs.lemmas.Bool.Decides.{nat_tests}
use Rattle.std.proofs.lemmas.Int.{int_wrap_fits, fits_signed_from_abs}
use Rattle.std.proofs.lemmas.List.Elements.{All-head, All-tail}
use Rattle.quantity.specs.Integers.{integers}
use Rattle.quantity.specs.Wholes.{whole, wholes}
use Rattle.quantity.specs.declared.numbers.Whole.{Whole}
use Rattle.netlist.specs.Netlist.{Netlist}
use Rattle.netlist.specs.Sound.{joins, is_sized, is_term_count, Sound}
use Rattle.std.specs.List.{list_all}
use Rattle.netlist.specs.declared.rows.Row.{Row}
use Rattle.netlist.specs.declared.rows.Row.TheVariants.{Branch, Earth}
use Rattle.netlist.specs.declared.terms.Term.{Term}
use Rattle.netlist.proofs.Every.{every_at}
use Rattle.network.specs.Walks.{read, row_at, no_row, tail_of, head_of, Within}
use Rattle.small_readings.specs.Small.{IsSmall, AreSmall}
use Rattle.small_readings.specs.Exact.{values_of, over_integers}

-- an integer this near to zero is held as it is
pub held_as_is : (z : ℤ) → unsigned_abs z < 2 ^ 63 → (whole z).value ≡ z
held_as_is z low = int_wrap_fits w64 z (fits_signed_from_abs w64 z low)

pub zero_value : wholes.zero.value ≡ pos 0
zero_value = held_as_is (pos 0) (omega arith)

-- and so nothing but zero is held as zero
pub zero_from : (z : ℤ) → unsigned_abs z < 2 ^ 63 → whole z ≡ wholes.zero → z ≡ pos 0
zero_from z low e = sym (held_as_is z low) ∙ ap (λ (x : Whole). x.value) e ∙ zero_value

pub read_small : (xs : List Whole) → AreSmall xs → (v : ℕ) → unsigned_abs (read integers (values_of xs) v) ≤ 2 ^ 40
read_small [] small v = omega arith
read_small (x ∷ xs) small zero = All-head IsSmall x xs small
read_small (x ∷ xs) small (suc v) = read_small xs (All-tail IsSmall x xs small) v

few : (n : ℕ) → is_term_count n ≡ true → n ≤ 8
few n h = grind (arith, nat_tests)

module _ (b : Netlist) (sound : Sound b) where
  abbrev law : ℕ → List Term
  law k = get_or b.laws k []

  past : (k : ℕ) → length b.laws ≤ k → [] ≡ law k
  past k l = sym (get_or-eq_default b.laws [] l)

  pub law_few : (k : ℕ) → length (law k) ≤ 8
  law_few k =
      ⊎_elim
      (λ below. few (length (law k)) (sound.laws k below).count)
      (λ above. subst (λ (ts : List Term). length ts ≤ 8) (past k above) (omega arith))
      (cases_lt k (length b.laws))

  pub law_sized : (k : ℕ) → list_all is_sized (law k) ≡ true
  law_sized k =
      ⊎_elim
      (λ below. (sound.laws k below).sized)
      (λ above. subst (λ (ts : List Term). list_all is_sized ts ≡ true) (past k above) refl)
      (cases_lt k (length b.laws))

  ends_within : (domains : List ℕ) (row : Row ℕ) → joins domains row ≡ true → (tail_of row < length domains + 1) × (head_of row < length domains + 1)
  ends_within domains (Branch flow across first second) h = grind (arith, nat_tests)
  ends_within domains (Earth flow across node) h = grind (arith, nat_tests)

  pub rows_within : (k : ℕ) → k ≤ length b.rows → (values : List Whole) → Within (over_integers b values) (length b.domains + 1) k
  rows_within k l values j below = ends_within b.domains (row_at b.rows j) (every_at (joins b.domains) b.rows j no_row (omega arith) sound.joined)
