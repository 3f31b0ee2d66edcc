-- What a lent buffer holds after something is written into it.
use Rattle.std.specs.Prelude.{ℕ, ◌+◌, List, ◌++◌, length, take, drop, Some, None, Option}

-- old, with new written over it from place at on
abbrev pub written : {X : Type 0} → List X → ℕ → List X → List X
written old at new = (take at old ++ new) ++ drop (at + length new) old

-- new from the start on; what lies beyond stays
abbrev pub over : {X : Type 0} → List X → List X → List X
over old new = new ++ drop (length new) old

-- a call that writes new, or is refused and touches nothing; R is what tells why
abbrev pub filled : {R X : Type 0} → Option R → List X → List X → List X
filled None old new = over old new
filled (Some why) old new = old
