-- What a tree is seen as: its meaning, and how high it is.
use Rattle.std.specs.Prelude.{ℕ}
use Rattle.assembly.specs.Meaning.{Meaning}

pub record Shape : Type 0 where
  pub meaning : Meaning
  pub height : ℕ
