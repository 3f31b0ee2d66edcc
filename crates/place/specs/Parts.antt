-- What is asked of an assembly that is placed.
use Rattle.std.specs.Prelude.{◌≡◌, ℕ, ◌+◌, List, [], Some, None, Option, Result}
use Rattle.netlist.specs.Netlist.{Netlist}
use Rattle.refusal.specs.Answers.{Accepts}
use Rattle.assembly.specs.declared.plans.Size.{Size}
use Rattle.assembly.specs.Meaning.{Meaning, void, plan, Plan, size_of}
use Rattle.plan_judging.specs.declared.refusals.PlaceRefusal.{PlaceRefusal}
use Rattle.plan_judging.specs.declared.refusals.PlaceRefusal.TheVariants.{Void}
use Rattle.plan_judging.specs.Alone.{judge_rows, judge_laws}
use Rattle.place.specs.Moved.{moved_rows, moved_laws, widened}
use Rattle.place.specs.Place.{judge_ends}

-- its plan, or an empty one if it is void
abbrev pub plan_of : Meaning → Plan
plan_of void = record { ends = []; inner = []; variables = 0; rows = []; laws = [] }
plan_of (plan p) = p

-- whether it is void, and then its ends
abbrev pub judge_void_ends : Netlist → List ℕ → Meaning → Option PlaceRefusal
judge_void_ends b given void = Some Void
judge_void_ends b given (plan p) = judge_ends b given p

-- an answer that is refused exactly as judged, and else tells the size
abbrev pub TellsSize : Meaning → Option PlaceRefusal → Result Size PlaceRefusal → Type 0
TellsSize m judged answer = Accepts judged (λ size. size_of m ≡ Some size) answer

-- its rows pass where they are drawn
abbrev pub RowsPass : Netlist → List ℕ → Meaning → Type 0
RowsPass b given m = judge_rows (widened b (plan_of m)) 0 (moved_rows b given (plan_of m)) ≡ None

-- and its laws, beside so many variables more
abbrev pub LawsPass : Netlist → Meaning → ℕ → Type 0
LawsPass b m variables = judge_laws (b.variables + variables) 0 (moved_laws b (plan_of m)) ≡ None
