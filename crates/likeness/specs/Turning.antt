-- That being alike leads back, and on from one netlist to a third.
use Rattle.std.specs.Prelude.{◌≡◌}
use Rattle.netlist.specs.Netlist.{Netlist}
use Rattle.likeness.specs.Alike.{Alike}
use Rattle.netlist.specs.Renaming.{Renaming}

-- each number stays
abbrev pub unchanged : Renaming
unchanged = record { node = λ n. n; variable = λ v. v }

-- one renaming after another
abbrev pub onward : Renaming → Renaming → Renaming
onward to further =
    record { node = λ n. further.node (to.node n); variable = λ v. further.variable (to.variable v) }

-- THEOREM: each netlist is alike itself
abbrev pub AlikeItself : Type 0
AlikeItself = (b : Netlist) → (s : Alike b b) × (s.there ≡ unchanged) × (s.back ≡ unchanged)

-- THEOREM: netlists that are alike are so the other way, by the numbers that lead back
abbrev pub AlikeBack : Type 0
AlikeBack = (b c : Netlist) (s : Alike b c) → (t : Alike c b) × (t.there ≡ s.back) × (t.back ≡ s.there)

-- THEOREM: of three netlists, if the first is alike the second and that alike the third, the first is alike the third,
-- by one renaming after the other
abbrev pub AlikeOnward : Type 0
AlikeOnward =
    (b c d : Netlist) (s : Alike b c) (t : Alike c d)
    → (u : Alike b d) × (u.there ≡ onward s.there t.there) × (u.back ≡ onward t.back s.back)
