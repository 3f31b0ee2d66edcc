-- What a check answers, and what it leaves in the buffer of potentials.
use Rattle.std.specs.Prelude.{◌≡◌, ℕ, Bool, not, ◌||◌, List, [], ◌∷◌, length, Some, None, Option, Result, Ok, Err, ◌==◌}
use Rattle.quantity.specs.Group.{Group}
use Rattle.netlist.specs.Netlist.{Netlist}
use Rattle.refusal.specs.Tests.{Tests, first_of}
use Rattle.network.specs.Readings.{Readings}
use Rattle.checking.specs.declared.refusals.CheckRefusal.{CheckRefusal}
use Rattle.checking.specs.declared.refusals.CheckRefusal.TheVariants.{WrongCount}
use Rattle.checking.specs.declared.verdicts.Verdict.{Verdict}
use Rattle.checking.specs.Verdicts.{VerdictIs}
use Rattle.checking.specs.Potentials.{Filled}

-- values or rates are not as many as variables, or potentials not as many as nodes
abbrev pub is_miscounted : {G : Type 0} → Netlist → Readings G → ℕ → Bool
is_miscounted b r potentials =
    not (length r.values == b.variables)
    || not (length r.rates == b.variables)
    || not (potentials == length b.domains)

-- check(readings, potentials)
abbrev pub table_check : {G : Type 0} → Netlist → Readings G → ℕ → Tests CheckRefusal
table_check b r potentials = (is_miscounted b r potentials, WrongCount) ∷ []

abbrev pub judge_check : {G : Type 0} → Netlist → Readings G → ℕ → Option CheckRefusal
judge_check b r potentials = first_of (table_check b r potentials)

-- a verdict with the potentials that go with it; or a refusal, and every potential as it was
abbrev pub Checked :
    {G : Type 0} → Group G → Netlist → Readings G → List G → List G → Result Verdict CheckRefusal → Type 0
Checked 𝓖 b r old new (Ok verdict) =
    (judge_check b r (length old) ≡ None)
    × (length new ≡ length old)
    × VerdictIs 𝓖 b r verdict
    × Filled 𝓖 b r new verdict
Checked 𝓖 b r old new (Err why) = (judge_check b r (length old) ≡ Some why) × (new ≡ old)
