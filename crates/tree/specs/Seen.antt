-- What a node means, from what its children mean, and what it knows of them.
use Rattle.std.specs.Prelude.{◌+◌, max}
use Rattle.layers.specs.Two.{ToldHalves}
use Rattle.parts.specs.Held.{held}
use Rattle.parts.specs.Single.{single}
use Rattle.repeat.specs.Repeat.{repeated}
use Rattle.repeat.specs.Repeat as of_copies
use Rattle.tree.specs.declared.trees.Node.{Node}
use Rattle.tree.specs.declared.trees.Node.TheVariants.{Stored, Single, Two, Repeat}
use Rattle.tree.specs.Shape.{Shape}
use Rattle.tree.specs.Ways.{meet_by, whole_by, layer_by}

abbrev pub seen : Node → Shape
seen (Stored plan) = record { meaning = held plan; height = 0 }
seen (Single part) = record { meaning = single part; height = 0 }
seen (Two way first second sizes) = record {
  meaning = layer_by way first.value.meaning second.value.meaning;
  height = max first.value.height second.value.height + 1;
}
seen (Repeat part times sizes) = record { meaning = repeated times part.value.meaning; height = part.value.height + 1 }

abbrev pub Keeps : Node → Type 0
Keeps (Stored plan) = Unit {0}
Keeps (Single part) = Unit {0}
Keeps (Two way first second sizes) =
    ToldHalves (meet_by way) (whole_by way) first.value.meaning second.value.meaning sizes
Keeps (Repeat part times sizes) = of_copies.ToldCopies times part.value.meaning sizes
