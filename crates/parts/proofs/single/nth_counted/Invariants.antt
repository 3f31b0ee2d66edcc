use Rattle.std.proofs.Common.{◌≡◌, drop, filter}
use Rattle.std.specs.List.{slice_get}
use Rattle.parts.specs.Single.{is_counted}
use Rattle.parts.proofs.single.nth_counted.Given as goal

abbrev pub invariant-loop-x : goal.invariant-loop-x
invariant-loop-x l = slice_get (filter is_counted (drop l.x-index l.terms)) l.left ≡ slice_get (filter is_counted l.terms) l.initial.left
