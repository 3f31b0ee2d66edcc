-- What is read of the variables of a netlist.
use Rattle.std.specs.Prelude.{List}

-- variable v has the value that stands at v in `values`, and the rate that stands at v in `rates`
pub record Readings (G : Type 0) : Type 0 where
  pub values : List G
  pub rates : List G
