-- Readings of the right number are checked, and readings that are read to their end are small and of that number.
use Rattle.std.proofs.Common.{◌≡◌, ℕ, ◌+◌, List, [], ◌∷◌, length, None, Ok, Err, Result, refl, ◌∙◌, arith}
use Rattle.std.specs.Prelude.{not, ◌||◌}
use Rattle.std.specs.Result.{IsOk}
use Rattle.std.proofs.lemmas.Bool.{eq-eqb}
use Rattle.quantity.specs.Group.{Group}
use Rattle.quantity.specs.declared.numbers.Whole.{Whole}
use Rattle.checking.specs.declared.refusals.CheckRefusal.{CheckRefusal}
use Rattle.checking.specs.declared.refusals.CheckRefusal.TheVariants.{WrongCount}
use Rattle.network.specs.Readings.{Readings}
use Rattle.netlist.specs.Netlist.{Netlist}
use Rattle.refusal.specs.Tests.{first_of}
use Rattle.text.specs.Grammar.{Bytes}
use Rattle.small_readings.specs.Small.{AreSmall}
use Rattle.readings_text.specs.Readings.{ReadsReadings, ReadingsFit}
use Rattle.checking.specs.declared.verdicts.Verdict.{Verdict}
use Rattle.checking.specs.Checked.{judge_check, Checked}

pub counts_fit : {G : Type 0} (b : Netlist) (r : Readings G) (p : ℕ) → length r.values ≡ b.variables → length r.rates ≡ b.variables → p ≡ length b.domains → judge_check b r p ≡ None
counts_fit b r p hv hr hp =
    let one = eq-eqb (length r.values) b.variables hv in
    let two = eq-eqb (length r.rates) b.variables hr in
    let three = eq-eqb p (length b.domains) hp in
    λ i. first_of ((not (one i) || not (two i) || not (three i), WrongCount) ∷ [])

-- what fits is checked
pub is_checked : {G : Type 0} (𝓖 : Group G) (b : Netlist) (r : Readings G) (old new : List G) (answer : Result Verdict CheckRefusal) → judge_check b r (length old) ≡ None → Checked 𝓖 b r old new answer → IsOk answer
is_checked 𝓖 b r old new (Ok verdict) fits h = refl
is_checked 𝓖 b r old new (Err why) fits h = let z : ◌≡◌ {A = ℕ} 0 1 = cc in absurd (omega arith)

pub same_verdict : (u v : Verdict) → ◌≡◌ {A = Result Verdict CheckRefusal} (Ok u) (Ok v) → u ≡ v
same_verdict u v e = cc

-- readings that are read onto none are small, and each variable has a value and a rate
pub record ReadingsOf (variables : ℕ) (values rates : List Whole) : Type 0 where
  pub values_fit : length values ≡ variables
  pub rates_fit : length rates ≡ variables
  pub small_values : AreSmall values
  pub small_rates : AreSmall rates

none_small : AreSmall []
none_small k d l = absurd (omega (arith, l))

zero_first : (n : ℕ) → 0 + n ≡ n
zero_first n = omega arith

pub readings_of : ReadingsFit → (text : Bytes) (variables : ℕ) (values rates : List Whole) → ReadsReadings text variables (Ok tt) [] [] values rates → ReadingsOf variables values rates
readings_of fit text variables values rates read =
    let told = fit text variables (Ok tt) [] [] values rates read in
    record {
      values_fit = told.0.complete refl ∙ zero_first variables;
      rates_fit = told.1.complete refl ∙ zero_first variables;
      small_values = told.0.small none_small;
      small_rates = told.1.small none_small;
    }
