-- Equations of netlists that are alike.
use Rattle.quantity.specs.Group.{Group}
use Rattle.likeness.proofs.Agreeing.{alike_agree}
use Rattle.readings.specs.Turned.{EquationsTurn}
use Rattle.readings.proofs.Agreeing.{equations_agree}

pub equations_turn : {G : Type 0} (𝓖 : Group G) → EquationsTurn 𝓖
equations_turn 𝓖 b c sb sc s r r' alike =
    let both = alike_agree 𝓖 b c s r r' alike in
    let here = equations_agree 𝓖 b sb r in
    let there = equations_agree 𝓖 c sc r' in
    (λ h. there.1 (both.0 (here.0 h)), λ h. here.1 (both.1 (there.0 h)))
