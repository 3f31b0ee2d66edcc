use Rattle.std.proofs.Common.{◌≡◌, take}
use Rattle.calls.specs.Calls.{entered}
use Rattle.calls.proofs.calls.run.Given as goal

-- the calls before this one are made
abbrev pub invariant-loop-call : goal.invariant-loop-call
invariant-loop-call g l = l.draft ≡ entered g.A.Assembly.meaning l.fn.draft (take l.call-index l.calls)
