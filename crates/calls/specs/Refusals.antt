-- The number, the place and the cause of each refusal of a call: those of the refusal inside.
use Rattle.std.specs.Prelude.{ℕ}
use Rattle.draft.specs.Refusals as draft
use Rattle.plan_judging.specs.Refusals as plan
use Rattle.calls.specs.declared.refusals.CallRefusal.{CallRefusal}
use Rattle.calls.specs.declared.refusals.CallRefusal.TheVariants.{Draft, Place}

abbrev pub number_of : CallRefusal → ℕ
number_of (Draft inner) = draft.number_of inner
number_of (Place inner) = plan.number_of inner

abbrev pub place_of : CallRefusal → ℕ
place_of (Draft inner) = draft.place_of inner
place_of (Place inner) = plan.place_of inner

-- what a draft refuses has no cause
abbrev pub cause_of : CallRefusal → ℕ
cause_of (Draft inner) = 0
cause_of (Place inner) = plan.cause_of inner
