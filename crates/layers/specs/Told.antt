-- What a struct keeps as a fact has one proof at most. Here is why that is so of what a layer knows of its parts.
use Rattle.std.proofs.Props.{props}
use Rattle.assembly.specs.Meaning.{Meaning, void, plan, Proper}

pub Meaning-set : IsSet Meaning
Meaning-set = Prim.hlevel props

pub Proper-prop : (m : Meaning) → IsProp (Proper m)
Proper-prop void = Prim.hlevel props
Proper-prop (plan p) = Prim.hlevel props

-- for `by { Prim.hlevel told }` after such a fact
pub ruleset told = (props, Meaning-set, Proper-prop)
