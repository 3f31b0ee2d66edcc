-- What a layer of two parts keeps is determined by the parts, and so is the layer.
use Rattle.std.proofs.Common.{◌≡◌, ◌+◌, ◌≤◌, Bool, Some, None, Option, sym, refl, ap, ◌∙◌, subst}
use Rattle.std.specs.Coded.{le_prop}
use Rattle.assembly.specs.declared.plans.Size.{Size}
use Rattle.assembly.specs.Plans.{most_of_plan}
use Rattle.assembly.specs.Meaning.{Meaning, Plan, size_of}
use Rattle.layers.specs.declared.halves.Halves.{Halves}
use Rattle.layers.specs.Told.{told}
use Rattle.layers.specs.Two.{ToldHalves}

abbrev Few : Size → Size → Type 0
Few a b = (a.inner + b.inner ≤ most_of_plan) × (a.variables + b.variables ≤ most_of_plan)

abbrev of : (a b w : Size) → Few a b → Halves
of a b w few = record { first = a; second = b; whole = w; few_inner = few.0; few_variables = few.1 }

same_sizes : {a b w x y z : Size} (few : Few a b) (also : Few x y) → a ≡ x → b ≡ y → w ≡ z → of a b w few ≡ of x y z also
same_sizes {a} {b} {w} {x} {y} {z} few also p q r =
    subst (λ x. (also : Few x y) → of a b w few ≡ of x y z also) p
    (subst (λ y. (also : Few a y) → of a b w few ≡ of a y z also) q
    (subst (λ z. (also : Few a b) → of a b w few ≡ of a b z also) r
    (λ also i. of a b w (le_prop few.0 also.0 i, le_prop few.1 also.1 i)))) also

module _ (meet : Meaning → Meaning → Bool) (whole : Plan → Plan → Plan) where
  told_once : (m n : Meaning) (r s : Option Halves) → ToldHalves meet whole m n r → ToldHalves meet whole m n s → r ≡ s
  told_once m n None None t u = refl
  told_once m n None (Some k) t u = absurd (let e = u.whole_has ∙ ap size_of t in cc)
  told_once m n (Some h) None t u = absurd (let e = t.whole_has ∙ ap size_of u in cc)
  told_once m n (Some h) (Some k) t u =
      let first : h.first ≡ k.first = let e = t.first_has ∙ sym u.first_has in cc in
      let second : h.second ≡ k.second = let e = t.second_has ∙ sym u.second_has in cc in
      let both : h.whole ≡ k.whole = let e = t.whole_has ∙ sym u.whole_has in cc in
      ap Some (same_sizes (h.few_inner, h.few_variables) (k.few_inner, k.few_variables) first second both)

  -- Two layers of the same parts are one: `made` makes a layer of its parts, what it keeps, and why it may.
  module _ {X Y L : Type 0} (means_x : X → Meaning) (means_y : Y → Meaning) (made : (x : X) (y : Y) (r : Option Halves) → ToldHalves meet whole (means_x x) (means_y y) r → L) where
    pub same_layer : {x u : X} {y v : Y} {r s : Option Halves} (t : ToldHalves meet whole (means_x x) (means_y y) r) (k : ToldHalves meet whole (means_x u) (means_y v) s) → x ≡ u → y ≡ v → made x y r t ≡ made u v s k
    same_layer {x} {u} {y} {v} {r} {s} t k p q =
        let only : IsProp (ToldHalves meet whole (means_x x) (means_y y) r) = Prim.hlevel told in
        subst (λ u. (k : ToldHalves meet whole (means_x u) (means_y v) s) → made x y r t ≡ made u v s k) p
        (subst (λ v. (k : ToldHalves meet whole (means_x x) (means_y v) s) → made x y r t ≡ made x v s k) q
        (λ k. subst (λ s. (k : ToldHalves meet whole (means_x x) (means_y y) s) → made x y r t ≡ made x y s k) (told_once (means_x x) (means_y y) r s t k)
        (λ k. ap (made x y r) (only t k)) k)) k
