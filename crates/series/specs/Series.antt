-- What two parts in series mean.
use Rattle.std.specs.Prelude.{ℕ, ◌+◌, Bool, ◌++◌, Option}
use Rattle.assembly.specs.declared.plans.Size.{Size}
use Rattle.assembly.specs.Meaning.{Meaning, Plan, size_in}
use Rattle.layers.specs.declared.halves.Halves.{Halves}
use Rattle.layers.specs.declared.renumbering.Renumbering.{Renumbering}
use Rattle.layers.specs.Renumbered.{moved_rows, moved_laws}
use Rattle.layers.specs.Layer.{same_domain, domain_at, first_end, second_end}
use Rattle.layers.specs.Two.{layer_of_two, front_between, back_between, ToldHalves}

-- The joint is the layer's last inner node, behind the inner nodes of both parts.
abbrev pub joint : Size → Size → ℕ
joint a b = 2 + a.inner + b.inner

-- The first part's first end stays the first, its second is the joint; its other things come first.
abbrev pub front_place : Size → Size → Renumbering
front_place a b = front_between 0 (joint a b) a

-- The second part's first end is the joint, its second stays the second; its other things come behind.
abbrev pub back_place : Size → Size → Renumbering
back_place a b = back_between (joint a b) 1 a b

abbrev pub in_series : Plan → Plan → Plan
in_series a b =
    let p = front_place (size_in a) (size_in b) in
    let q = back_place (size_in a) (size_in b) in
    record {
      ends = first_end a ++ second_end b;
      inner = a.inner ++ b.inner ++ second_end a;
      variables = a.variables + b.variables;
      rows = moved_rows p a ++ moved_rows q b;
      laws = moved_laws p a ++ moved_laws q b;
    }

-- The second end of the one and the first of the other are of one domain.
abbrev pub meet : Meaning → Meaning → Bool
meet m n = same_domain (domain_at m 1) (domain_at n 0)

abbrev pub series : Meaning → Meaning → Meaning
series = layer_of_two meet in_series

-- What a series knows of its parts: that it is void, or what it and they have.
abbrev pub Knows : Meaning → Meaning → Option Halves → Type 0
Knows = ToldHalves meet in_series
