-- The parts of an agreement, from what is answered on the way.
use Rattle.std.proofs.Common.{◌≡◌, List, length, None, Ok, Err, Result, refl, ap, subst}
use Rattle.quantity.specs.Group.{Group}
use Rattle.netlist.specs.Buffers.{filled}
use Rattle.netlist.specs.Netlist.{Netlist}
use Rattle.netlist.specs.Pieces.{flat}
use Rattle.netlist.specs.Sound.{Sound}
use Rattle.network.specs.Readings.{Readings}
use Rattle.equation.specs.Equations.{equations_of}
use Rattle.equation.specs.Listing.{spans_from, answer_equations}
use Rattle.equation.specs.Placed.{Placed}
use Rattle.readings.proofs.Agreeing.{equations_agree}
use Rattle.likeness.proofs.Agreeing.{alike_agree}
use Rattle.checking.specs.declared.refusals.CheckRefusal.{CheckRefusal}
use Rattle.checking.specs.declared.verdicts.Verdict.{Verdict}
use Rattle.checking.specs.declared.verdicts.Verdict.TheVariants.{Holds}
use Rattle.checking.specs.Verdicts.{VerdictIs}
use Rattle.checking.specs.Checked.{judge_check, Checked}
use Rattle.checking.proofs.Deciding.{one_verdict}
use Rattle.agreement.specs.declared.accepting.Acceptance.{Acceptance}
use Rattle.agreement.specs.declared.accepting.Buffers.{Buffers}
use Rattle.agreement.specs.Agreement.{judge_buffers, PlantAgrees, Agreement, BothOrNeither}

module _ {G : Type 0} (𝓖 : Group G) (b : Netlist) (r : Readings G) where
  -- what is checked has the verdict that is answered
  verdict_is : (old new : List G) (checked : Result Verdict CheckRefusal) → Checked 𝓖 b r old new checked → (u : Verdict) → checked ≡ Ok u → VerdictIs 𝓖 b r u
  verdict_is old new checked h u e =
      let here : Checked 𝓖 b r old new (Ok u) = subst (Checked 𝓖 b r old new) e h in
      here.2

  -- and no other
  only_verdict : (old new : List G) (checked : Result Verdict CheckRefusal) → Checked 𝓖 b r old new checked → judge_check b r (length old) ≡ None → (v : Verdict) → VerdictIs 𝓖 b r v → checked ≡ Ok v
  only_verdict old new (Ok u) h counts v is = ap Ok (one_verdict 𝓖 b r u v h.2 is)
  only_verdict old new (Err why) h counts v is = cc

  plant_stays : (old new : List G) (a : Acceptance) → Checked 𝓖 b r old new a.checked → PlantAgrees 𝓖 b r a
  plant_stays old new a h = record {
    agree = λ x c s same. alike_agree 𝓖 b c same.alike x s same.read_alike;
    verdicts = λ u e c s same v is.
        let both = alike_agree 𝓖 b c same.alike r s same.read_alike in
        let here = verdict_is old new a.checked h u e in (
          λ holds. one_verdict 𝓖 c s v Holds is (both.0 (subst (VerdictIs 𝓖 b r) holds here)),
          λ holds. one_verdict 𝓖 b r u Holds here (both.1 (subst (VerdictIs 𝓖 c s) holds is)),
        );
  }

module _ {G : Type 0} (𝓖 : Group G) (r : Readings G) (old new : Buffers G) (a : Acceptance) where
  pub accepted :
      (b : Netlist) → a.sheet ≡ b → Sound a.sheet
      → a.listed ≡ answer_equations a.sheet (length old.terms.now) (length old.spans.now)
      → new.terms.now ≡ filled (judge_buffers a.sheet old) old.terms.now (flat (equations_of a.sheet))
      → new.spans.now ≡ filled (judge_buffers a.sheet old) old.spans.now (spans_from 0 (equations_of a.sheet))
      → Placed a.sheet
      → Checked 𝓖 a.sheet r old.potentials.now new.potentials.now a.checked
      → Agreement 𝓖 b r old new a
  accepted b same sound listed terms spans placed checked =
      subst (λ (drawn : Netlist). Agreement 𝓖 drawn r old new a) same
      (record {
        sheet = refl;
        readings = record { listed = listed; terms = terms; spans = spans; placed = placed; agree = λ x. equations_agree 𝓖 a.sheet sound x };
        verdict = record { checked = checked; only = only_verdict 𝓖 a.sheet r old.potentials.now new.potentials.now a.checked checked };
        plant = plant_stays 𝓖 a.sheet r old.potentials.now new.potentials.now a checked;
      })

pub both_or_neither :
    {G : Type 0} {𝓖 : Group G} {b c : Netlist} {r s : Readings G} {old new old' new' : Buffers G} {first second : Acceptance}
    → Agreement 𝓖 b r old new first
    → Agreement 𝓖 c s old' new' second
    → BothOrNeither 𝓖 b r first c s second
both_or_neither {𝓖 = 𝓖} {c = c} {s = s} {old' = old'} {new' = new'} {second = second} one other same u v is is' =
    one.plant.verdicts u is c s same v
    (verdict_is 𝓖 c s old'.potentials.now new'.potentials.now second.checked other.verdict.checked v is')
