-- What two parts side by side mean.
use Rattle.std.specs.Prelude.{◌+◌, Bool, ◌&&◌, ◌++◌, Option}
use Rattle.assembly.specs.declared.plans.Size.{Size}
use Rattle.assembly.specs.Meaning.{Meaning, Plan, size_in}
use Rattle.layers.specs.declared.halves.Halves.{Halves}
use Rattle.layers.specs.declared.renumbering.Renumbering.{Renumbering}
use Rattle.layers.specs.Renumbered.{moved_rows, moved_laws}
use Rattle.layers.specs.Layer.{same_domain, domain_at}
use Rattle.layers.specs.Two.{layer_of_two, front_between, back_between, ToldHalves}

-- The ends stay where they are. The one part's other things come first.
abbrev pub front_place : Size → Size → Renumbering
front_place a b = front_between 0 1 a

-- The other part's come behind them.
abbrev pub back_place : Size → Size → Renumbering
back_place a b = back_between 0 1 a b

abbrev pub in_parallel : Plan → Plan → Plan
in_parallel a b =
    let p = front_place (size_in a) (size_in b) in
    let q = back_place (size_in a) (size_in b) in
    record {
      ends = a.ends;
      inner = a.inner ++ b.inner;
      variables = a.variables + b.variables;
      rows = moved_rows p a ++ moved_rows q b;
      laws = moved_laws p a ++ moved_laws q b;
    }

-- The first ends are of one domain, and so are the second ends.
abbrev pub meet : Meaning → Meaning → Bool
meet m n = same_domain (domain_at m 0) (domain_at n 0) && same_domain (domain_at m 1) (domain_at n 1)

abbrev pub beside : Meaning → Meaning → Meaning
beside = layer_of_two meet in_parallel

-- What parts side by side let the layer know: that it is void, or what it and they have.
abbrev pub Knows : Meaning → Meaning → Option Halves → Type 0
Knows = ToldHalves meet in_parallel
