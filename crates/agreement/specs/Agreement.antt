-- What it comes to when a draft is accepted: the readings, the verdict and the plant.
use Rattle.std.specs.Prelude.{◌≡◌, length, Ok, None, Option}
use Rattle.quantity.specs.Group.{Group}
use Rattle.netlist.specs.Buffers.{filled}
use Rattle.netlist.specs.Netlist.{Netlist}
use Rattle.netlist.specs.Pieces.{flat}
use Rattle.network.specs.Readings.{Readings}
use Rattle.equation.specs.declared.refusals.EquationRefusal.{EquationRefusal}
use Rattle.equation.specs.Equations.{equations_of}
use Rattle.equation.specs.Listing.{spans_from, judge_equations, answer_equations}
use Rattle.equation.specs.Placed.{Placed}
use Rattle.checking.specs.declared.verdicts.Verdict.{Verdict}
use Rattle.checking.specs.Verdicts.{VerdictIs}
use Rattle.checking.specs.Checked.{judge_check, Checked}
use Rattle.agreement.specs.declared.accepting.Acceptance.{Acceptance}
use Rattle.agreement.specs.declared.accepting.Buffers.{Buffers}
use Rattle.agreement.specs.Redrawing.{PotentialsAgree, SamePlant, HoldAlike, RedrawnAgrees, RedrawnHolds}

-- they are the same buffers, whatever is in them
abbrev pub SameBuffers : {G : Type 0} → Buffers G → Buffers G → Type 0
SameBuffers old new =
    (new.terms.ghost_name ≡ old.terms.ghost_name)
    × (new.spans.ghost_name ≡ old.spans.ghost_name)
    × (new.potentials.ghost_name ≡ old.potentials.ghost_name)

-- whether a buffer is too short for the equations of the netlist
abbrev pub judge_buffers : {G : Type 0} → Netlist → Buffers G → Option EquationRefusal
judge_buffers b buffers = judge_equations b (length buffers.terms.now) (length buffers.spans.now)

-- The buffers hold the equations of the netlist, term for term and without gaps, unless one is short; and
-- potentials that satisfy them all exist exactly for the readings that agree, whatever is read.
pub record ListingAgrees {G : Type 0} (𝓖 : Group G) (b : Netlist) (old new : Buffers G)
    (a : Acceptance) : Type 0 where
  pub listed : a.listed ≡ answer_equations b (length old.terms.now) (length old.spans.now)
  pub terms : new.terms.now ≡ filled (judge_buffers b old) old.terms.now (flat (equations_of b))
  pub spans : new.spans.now ≡ filled (judge_buffers b old) old.spans.now (spans_from 0 (equations_of b))
  pub placed : Placed b
  pub agree : PotentialsAgree 𝓖 b

-- The verdict and the potentials are those of the readings, unless a count is wrong; and if none is, a verdict
-- that these readings have is the one that is answered.
pub record VerdictAgrees {G : Type 0} (𝓖 : Group G) (b : Netlist) (r : Readings G) (old new : Buffers G)
    (a : Acceptance) : Type 0 where
  pub checked : Checked 𝓖 b r old.potentials.now new.potentials.now a.checked
  pub only :
      judge_check b r (length old.potentials.now) ≡ None → (v : Verdict) → VerdictIs 𝓖 b r v → a.checked ≡ Ok v

-- However the plant is drawn, its readings agree or do not, whatever is read; so the verdict is `Holds` for each
-- netlist of it, or for none.
pub record PlantAgrees {G : Type 0} (𝓖 : Group G) (b : Netlist) (r : Readings G) (a : Acceptance) : Type 0 where
  pub agree : RedrawnAgrees 𝓖 b
  pub verdicts : (u : Verdict) → a.checked ≡ Ok u → RedrawnHolds 𝓖 b r u

-- what it comes to when a draft with netlist b is accepted, with readings of it
pub record Agreement {G : Type 0} (𝓖 : Group G) (b : Netlist) (r : Readings G) (old new : Buffers G)
    (a : Acceptance) : Type 0 where
  pub sheet : a.sheet ≡ b
  pub readings : ListingAgrees 𝓖 b old new a
  pub verdict : VerdictAgrees 𝓖 b r old new a
  pub plant : PlantAgrees 𝓖 b r a

-- two acceptances of one plant say `Holds` both or neither, if both were checked
abbrev pub BothOrNeither :
    {G : Type 0} → Group G → Netlist → Readings G → Acceptance → Netlist → Readings G → Acceptance → Type 0
BothOrNeither 𝓖 b r first c s second =
    SamePlant 𝓖 b r c s → (u v : Verdict) → first.checked ≡ Ok u → second.checked ≡ Ok v → HoldAlike u v
