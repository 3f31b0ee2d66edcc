-- The two ways in which a layer holds two parts, as each way's crate has them.
use Rattle.std.specs.Prelude.{◌≡◌, ℕ, ◌+◌, ◌-◌, Bool, cond, Option, nat_lt}
use Rattle.std.specs.List.{slice_get}
use Rattle.netlist.specs.declared.domains.Domain.{Domain}
use Rattle.assembly.specs.declared.plans.Size.{Size}
use Rattle.assembly.specs.Meaning.{Meaning, Plan, domains_of}
use Rattle.layers.specs.declared.halves.Halves.{Halves}
use Rattle.layers.specs.declared.renumbering.Renumbering.{Renumbering}
use Rattle.layers.specs.Two.{layer_of_two, Halved}
use Rattle.series.specs.Series as in_line
use Rattle.side_by_side.specs.Beside as between
use Rattle.tree.specs.declared.ways.Way.{Way}
use Rattle.tree.specs.declared.ways.Way.TheVariants.{Series, SideBySide}
use Rattle.tree.specs.declared.ways.Asked.{Asked}
use Rattle.tree.specs.declared.ways.Asked.TheVariants.{First, Second}

abbrev pub meet_by : Way → Meaning → Meaning → Bool
meet_by Series = in_line.meet
meet_by SideBySide = between.meet

abbrev pub whole_by : Way → Plan → Plan → Plan
whole_by Series = in_line.in_series
whole_by SideBySide = between.in_parallel

abbrev pub layer_by : Way → Meaning → Meaning → Meaning
layer_by w = layer_of_two (meet_by w) (whole_by w)

abbrev pub front_by : Way → Size → Size → Renumbering
front_by Series = in_line.front_place
front_by SideBySide = between.front_place

abbrev pub back_by : Way → Size → Size → Renumbering
back_by Series = in_line.back_place
back_by SideBySide = between.back_place

-- A node of the first part, or behind these an inner node of the second.
abbrev pub joined_node : Size → ℕ → Asked
joined_node first i = cond (nat_lt i (2 + first.inner)) (First i) (Second (i - first.inner))

-- The domain that is told.
abbrev pub domain_of : Asked → Meaning → Meaning → Option Domain
domain_of (First i) m n = slice_get (domains_of m) i
domain_of (Second i) m n = slice_get (domains_of n) i

-- What is asked of a part tells the domain of node i of the layer.
abbrev pub AsksRightly : Way → Halves → ℕ → Asked → Type 0
AsksRightly w h i a =
    (m n : Meaning) → Halved (meet_by w) (whole_by w) m n h
    → domain_of a m n ≡ slice_get (domains_of (layer_by w m n)) i
