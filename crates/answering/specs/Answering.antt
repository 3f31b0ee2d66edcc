-- What is answered to a sheet text and to readings of its sheet, and what is printed then.
use Rattle.std.specs.Prelude.{◌≡◌, List, [], ◌++◌, length, Ok, Err, Result}
use Rattle.quantity.specs.declared.numbers.Whole.{Whole}
use Rattle.quantity.specs.Wholes.{wholes}
use Rattle.netlist.specs.Netlist.{Netlist, empty}
use Rattle.network.specs.Readings.{Readings}
use Rattle.equation.specs.Placed.{Placed}
use Rattle.text.specs.Grammar.{Bytes}
use Rattle.sheet_reader.specs.Reading.{ReadsText}
use Rattle.readings_text.specs.Readings.{ReadsReadings}
use Rattle.checking.specs.declared.verdicts.Verdict.{Verdict}
use Rattle.checking.specs.Integers.{JudgesIntegers}
use Rattle.checking.specs.Potentials.{Filled}
use Rattle.checking.specs.Verdicts.{VerdictIs}
use Rattle.agreement.specs.Redrawing.{PotentialsAgree, RedrawnAgrees, RedrawnHolds}
use Rattle.answering.specs.declared.faults.AnswerFault.{AnswerFault}
use Rattle.answering.specs.declared.faults.AnswerFault.TheVariants.{Sheet, Readings as ReadingsAtFault}
use Rattle.answering.specs.Answers.{accepted_text}

-- What holds of the netlist whatever is read of it: its equations have each row's flow where its ends are, some
-- potentials satisfy them all exactly if the readings agree, and readings agree however the plant is drawn or never.
pub record NetlistAgrees (c : Netlist) : Type 0 where
  pub placed : Placed c
  pub potentials : PotentialsAgree wholes c
  pub redrawn : RedrawnAgrees wholes c

-- The verdict is that of the readings, which have no other, and it is `Holds` however the plant is drawn, or never.
-- Each node has a potential, and the potentials are those that go with the verdict. Both are so over the unbounded
-- integers.
pub record ReadingsJudged (c : Netlist) (r : Readings Whole) (verdict : Verdict) (ps : List Whole) : Type 0 where
  pub is : VerdictIs wholes c r verdict
  pub only : (v : Verdict) → VerdictIs wholes c r v → verdict ≡ v
  pub redrawn : RedrawnHolds wholes c r verdict
  pub counted : length ps ≡ length c.domains
  pub filled : Filled wholes c r ps verdict
  pub integers : JudgesIntegers c r ps verdict

-- what is printed of the netlist, the verdict and the potentials stands behind old
pub record Accepted (c : Netlist) (r : Readings Whole) (verdict : Verdict) (ps : List Whole)
    (old new : Bytes) : Type 0 where
  pub netlist : NetlistAgrees c
  pub judged : ReadingsJudged c r verdict ps
  pub printed : new ≡ old ++ accepted_text c verdict ps

-- The text draws the netlist, and the readings are values and rates of all of its variables.
pub record Given (text readings : Bytes) (c : Netlist) (r : Readings Whole) : Type 0 where
  pub drawn : ReadsText text empty (Ok tt) c
  pub read : ReadsReadings readings c.variables (Ok tt) [] [] r.values r.rates

-- What is printed stands behind old. Where a text is at fault nothing is printed, and readings are at fault only
-- where the sheet text is not.
abbrev pub Answered : Bytes → Bytes → Result Verdict AnswerFault → Bytes → Bytes → Type 0
Answered text readings (Ok verdict) old new =
    (c : Netlist) × (r : Readings Whole) × (ps : List Whole)
    × Given text readings c r × Accepted c r verdict ps old new
Answered text readings (Err (Sheet fault)) old new = (c : Netlist) × ReadsText text empty (Err fault) c × (new ≡ old)
Answered text readings (Err (ReadingsAtFault fault)) old new =
    (c : Netlist) × (r : Readings Whole)
    × ReadsText text empty (Ok tt) c
    × ReadsReadings readings c.variables (Err fault) [] [] r.values r.rates
    × (new ≡ old)
