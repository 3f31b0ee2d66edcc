-- What a layer of copies keeps is determined by the part and the number of copies, and so is the layer.
use Rattle.std.proofs.Common.{◌≡◌, ℕ, ◌*◌, ◌≤◌, Some, None, Option, sym, refl, ap, ◌∙◌, subst}
use Rattle.std.specs.Coded.{le_prop}
use Rattle.assembly.specs.declared.plans.Size.{Size}
use Rattle.assembly.specs.Plans.{most_of_plan}
use Rattle.assembly.specs.Meaning.{Meaning, size_of}
use Rattle.layers.specs.Told.{told}
use Rattle.repeat.specs.declared.copies.Copies.{Copies}
use Rattle.repeat.specs.Limits.{most_copies}
use Rattle.repeat.specs.Repeat.{ToldCopies}

abbrev Few : ℕ → Size → Type 0
Few n a = (n ≤ most_copies) × (n * a.inner ≤ most_of_plan) × (n * a.variables ≤ most_of_plan)

abbrev of : (n : ℕ) (a w : Size) → Few n a → Copies
of n a w few = record { part = a; times = n; whole = w; few = few.0; few_inner = few.1; few_variables = few.2 }

same_sizes : {n k : ℕ} {a w x z : Size} (few : Few n a) (also : Few k x) → n ≡ k → a ≡ x → w ≡ z → of n a w few ≡ of k x z also
same_sizes {n} {k} {a} {w} {x} {z} few also p q r =
    subst (λ k. (also : Few k x) → of n a w few ≡ of k x z also) p
    (subst (λ x. (also : Few n x) → of n a w few ≡ of n x z also) q
    (subst (λ z. (also : Few n a) → of n a w few ≡ of n a z also) r
    (λ also i. of n a w (le_prop few.0 also.0 i, le_prop few.1 also.1 i, le_prop few.2 also.2 i)))) also

told_once : (n : ℕ) (m : Meaning) (r s : Option Copies) → ToldCopies n m r → ToldCopies n m s → r ≡ s
told_once n m None None t u = refl
told_once n m None (Some k) t u = absurd (let e = u.whole_has ∙ ap size_of t in cc)
told_once n m (Some h) None t u = absurd (let e = t.whole_has ∙ ap size_of u in cc)
told_once n m (Some h) (Some k) t u =
    let part : h.part ≡ k.part = let e = t.part_has ∙ sym u.part_has in cc in
    let whole : h.whole ≡ k.whole = let e = t.whole_has ∙ sym u.whole_has in cc in
    ap Some (same_sizes (h.few, h.few_inner, h.few_variables) (k.few, k.few_inner, k.few_variables) (t.times_has ∙ sym u.times_has) part whole)

-- Two layers of as many copies of the same part are one: `made` makes a layer of its part, what it keeps, and why it may.
module _ {X L : Type 0} (n : ℕ) (means : X → Meaning) (made : (x : X) (r : Option Copies) → ToldCopies n (means x) r → L) where
  pub same_layer : {x u : X} {r s : Option Copies} (t : ToldCopies n (means x) r) (k : ToldCopies n (means u) s) → x ≡ u → made x r t ≡ made u s k
  same_layer {x} {u} {r} {s} t k p =
      let only : IsProp (ToldCopies n (means x) r) = Prim.hlevel told in
      subst (λ u. (k : ToldCopies n (means u) s) → made x r t ≡ made u s k) p
      (λ k. subst (λ s. (k : ToldCopies n (means x) s) → made x r t ≡ made x s k) (told_once n (means x) r s t k)
      (λ k. ap (made x r) (only t k)) k) k
