-- The lowest number of which something fails is one number, and another way to say the same has the same one.
use Rattle.std.proofs.Common.{◌≡◌, ◌↔◌, ℕ, ◌<◌, ⊎_elim, arith}
use Rattle.std.proofs.lemmas.Bool.{cases_order}
use Rattle.network.specs.First.{First}

pub one_first : (Good Bad : ℕ → Type 0) → ((j : ℕ) → Good j → Bad j → ⊥) → (m j k : ℕ) → First Good Bad m j → First Good Bad m k → j ≡ k
one_first Good Bad apart m j k p q =
    ⊎_elim
    (λ (same : j ≡ k). same)
    (⊎_elim
    (λ below. absurd (apart j (q.before j below) p.here))
    (λ above. absurd (apart k (p.before k above) q.here)))
    (cases_order j k)

module _ (Good Bad Good' Bad' : ℕ → Type 0) (m : ℕ) where
  first_to : ((j : ℕ) → j < m → Good j → Good' j) → ((j : ℕ) → j < m → Bad j → Bad' j) → (k : ℕ) → First Good Bad m k → First Good' Bad' m k
  first_to good bad k first = record {
    within = first.within;
    before = λ j l. good j (omega (arith, l, first.within)) (first.before j l);
    here = bad k first.within first.here;
  }

pub first_alike : (Good Bad Good' Bad' : ℕ → Type 0) (m : ℕ) → ((j : ℕ) → j < m → Good j ↔ Good' j) → ((j : ℕ) → j < m → Bad j ↔ Bad' j) → (k : ℕ) → First Good Bad m k ↔ First Good' Bad' m k
first_alike Good Bad Good' Bad' m good bad k = (
  first_to Good Bad Good' Bad' m (λ j l. (good j l).0) (λ j l. (bad j l).0) k,
  first_to Good' Bad' Good Bad m (λ j l. (good j l).1) (λ j l. (bad j l).1) k,
)
