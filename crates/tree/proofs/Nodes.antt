-- What a node knows, once it is known which it is.
use Rattle.std.proofs.Common.{◌≡◌, ℕ, Option, Some, refl, sym, ap, ◌∙◌, subst, Box, Global}
use Rattle.assembly.specs.Meaning.{Meaning, Proper}
use Rattle.layers.specs.declared.halves.Halves.{Halves}
use Rattle.layers.specs.Two.{Joins}
use Rattle.layers.proofs.Halving as of_two
use Rattle.repeat.specs.declared.copies.Copies.{Copies}
use Rattle.repeat.specs.Repeat.{Copied, repeated}
use Rattle.repeat.proofs.InCopies as of_copies
use Rattle.tree.specs.declared.trees.Node.{Node}
use Rattle.tree.specs.declared.trees.Node.TheVariants.{Two, Repeat}
use Rattle.tree.specs.declared.trees.Tree.{Tree}
use Rattle.tree.specs.declared.ways.Way.{Way}
use Rattle.tree.specs.Seen.{seen, Keeps}
use Rattle.tree.specs.Shape.{Shape}
use Rattle.tree.specs.Ways.{meet_by, whole_by, front_by, back_by}
use Rattle.tree.proofs.Layouts.{layout_by}

-- The node n of the tree that is seen as v.
module _ {n : Node} {v : Shape} (view : seen n ≡ v) (keeps : Keeps n) where
  meaning_of : {other : Node} → n ≡ other → (seen other).meaning ≡ v.meaning
  meaning_of e = sym (ap (λ n. (seen n).meaning) e) ∙ ap (λ (v : Shape). v.meaning) view

  module _ {way : Way} {first second : Box Tree Global} {sizes : Option Halves} (e : n ≡ Two way first second sizes) (h : Halves) (s : sizes ≡ Some h) where
    pub two_joins : Joins (meet_by way) (whole_by way) first.value.meaning second.value.meaning v.meaning h (front_by way h.first h.second) (back_by way h.first h.second)
    two_joins =
        let m = first.value.meaning in
        let n = second.value.meaning in
        let is = of_two.known (meet_by way) (whole_by way) m n h (rw e at keeps) s in
        subst (λ (w : Meaning). Joins (meet_by way) (whole_by way) m n w h (front_by way h.first h.second) (back_by way h.first h.second)) (meaning_of e)
        (of_two.joined (layout_by way) is refl refl)

    pub two_proper : Proper v.meaning
    two_proper = subst Proper (two_joins.whole_is) (of_two.layer_proper (layout_by way) two_joins.halved)

  module _ {part : Box Tree Global} {times : ℕ} {sizes : Option Copies} (e : n ≡ Repeat part times sizes) where
    pub as_copies : repeated times part.value.meaning ≡ v.meaning
    as_copies = meaning_of e

    module _ (c : Copies) (s : sizes ≡ Some c) where
      pub as_copied : Copied times part.value.meaning c
      as_copied = of_copies.known times part.value.meaning c (rw e at keeps) s

      pub copies_proper : Proper v.meaning
      copies_proper = subst Proper as_copies (of_copies.copies_proper times as_copied)
