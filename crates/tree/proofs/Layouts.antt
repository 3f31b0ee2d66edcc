-- How the plan of a layer of two is laid out, whichever way it holds its parts.
use Rattle.std.proofs.Common.{ℕ}
use Rattle.layers.proofs.Halving.{PartsLayout}
use Rattle.series.proofs.InSeries.{series_layout}
use Rattle.side_by_side.proofs.InParallel.{parallel_layout}
use Rattle.tree.specs.declared.ways.Way.{Way}
use Rattle.tree.specs.declared.ways.Way.TheVariants.{Series, SideBySide}
use Rattle.tree.specs.Ways.{whole_by, front_by, back_by}

abbrev pub joints_by : Way → ℕ
joints_by Series = 1
joints_by SideBySide = 0

pub layout_by : (w : Way) → PartsLayout (joints_by w) (whole_by w) (front_by w) (back_by w)
layout_by Series = series_layout
layout_by SideBySide = parallel_layout
