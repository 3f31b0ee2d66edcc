-- Pieces cut at a separator.
use Rattle.std.proofs.Common.{◌≡◌, ℕ, suc, ◌<◌, eqb, [], ◌∷◌, ◌++◌, length, get_or, refl, ap, ◌∙◌, arith}
use Rattle.std.proofs.lemmas.Bool.{eq-eqb, ne_eqb, cond-true, cond-false}
use Rattle.text.specs.Grammar.{Bytes}
use Rattle.text.specs.Cut.{cut, onto_first}

abbrev pub Without : ℕ → Bytes → Type 0
Without sep bs = (k : ℕ) → k < length bs → get_or bs k 0 ≡ sep → ⊥

without_tail : (sep b : ℕ) (bs : Bytes) → Without sep (b ∷ bs) → Without sep bs
without_tail sep b bs w k h is = w (suc k) (omega arith) is

pub cut_none : (sep : ℕ) → cut sep [] ≡ []
unfolding cut
cut_none sep = refl

pub cut_other : (sep b : ℕ) (bs : Bytes) → (b ≡ sep → ⊥) → cut sep (b ∷ bs) ≡ onto_first b (cut sep bs)
unfolding cut
cut_other sep b bs other = cond-false (eqb b sep) ([] ∷ cut sep bs) (onto_first b (cut sep bs)) (ne_eqb b sep other)

pub cut_here : (sep : ℕ) (bs : Bytes) → cut sep (sep ∷ bs) ≡ [] ∷ cut sep bs
unfolding cut
cut_here sep bs = cond-true (eqb sep sep) ([] ∷ cut sep bs) (onto_first sep (cut sep bs)) (eq-eqb sep sep refl)

pub cut_next : (sep : ℕ) (p rest : Bytes) → Without sep p → cut sep (p ++ sep ∷ rest) ≡ p ∷ cut sep rest
cut_next sep [] rest w = cut_here sep rest
cut_next sep (b ∷ p) rest w =
    cut_other sep b (p ++ sep ∷ rest) (w 0 (omega arith)) ∙ ap (onto_first b) (cut_next sep p rest (without_tail sep b p w))

pub cut_last : (sep b : ℕ) (p : Bytes) → Without sep (b ∷ p) → cut sep (b ∷ p) ≡ (b ∷ p) ∷ []
cut_last sep b [] w = cut_other sep b [] (w 0 (omega arith)) ∙ ap (onto_first b) (cut_none sep)
cut_last sep b (c ∷ p) w = cut_other sep b (c ∷ p) (w 0 (omega arith)) ∙ ap (onto_first b) (cut_last sep c p (without_tail sep b (c ∷ p) w))
