-- A plan is judged on any netlist as by itself.
use Rattle.std.specs.Prelude.{◌≡◌, ℕ, [], ◌∷◌, None}
use Rattle.std.specs.Option.{option_or}
use Rattle.netlist.specs.Netlist.{Netlist}
use Rattle.netlist.specs.Sound.{Sound}
use Rattle.assembly.specs.Meaning.{plan, Plan, Bounded}
use Rattle.plan_judging.specs.Alone.{judge_alone}
use Rattle.place.specs.Place.{judge_ends, judge_limits, judge_place}

-- THEOREM: where its ends can be placed on a sound netlist, a plan is refused there for what is wrong with its rows and
-- laws by themselves, and else for want of room alone
abbrev pub JudgedAlone : Type 0
JudgedAlone =
    (b : Netlist) → Sound b → (a : Plan) → Bounded a → (p q : ℕ) → judge_ends b (p ∷ q ∷ []) a ≡ None
    → judge_place b (plan a) (p ∷ q ∷ []) ≡ option_or (judge_alone a) (judge_limits b a)
