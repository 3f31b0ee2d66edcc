-- Lists of one value.
use Rattle.std.proofs.Common.{◌≡◌, ℕ, ◌<◌, List, length, get_or, replicate, sym, ◌∙◌, arith}
use Rattle.std.proofs.lemmas.List.{ext_get_or, get_or-replicate, length-replicate}

pub filled : {X : Type 0} (xs : List X) (n : ℕ) (x : X) → length xs ≡ n → ((i : ℕ) → i < n → get_or xs i x ≡ x) → xs ≡ replicate n x
filled xs n x e each =
    ext_get_or x xs (replicate n x) (e ∙ sym (length-replicate n x)) (λ i l. let here : i < n = omega arith in each i here ∙ sym (get_or-replicate n i x x here))
