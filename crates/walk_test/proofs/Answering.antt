-- Rows and readings have one answer.
use Rattle.std.proofs.Common.{◌≡◌, ℕ, ◌+◌, List, length, replicate, Ok, Err, refl, sym, ap, ◌∙◌, arith}
use Rattle.std.proofs.lemmas.List.{ext_get_or}
use Rattle.quantity.specs.Group.{Group}
use Rattle.network.specs.Walks.{Network, Solved, Refuted}
use Rattle.network.proofs.Walking.{potentials_close_walks}
use Rattle.network.proofs.Refuting.{one_refuted, closed_not_refuted}
use Rattle.walk_test.specs.declared.findings.Finding.TheVariants.{WalksClose, SomeWalkFails}
use Rattle.walk_test.specs.Potentials.{potential_at}
use Rattle.walk_test.specs.Tested.{OneAnswer}
use Rattle.walk_test.proofs.Moving.{node_potential}

module _ {G : Type 0} (𝓖 : Group G) (R : Network G) where
  same_filling : (m : ℕ) (ps ps' : List G) → length ps ≡ length ps' → Solved 𝓖 R (length ps + 1) m (potential_at 𝓖 ps) → Solved 𝓖 R (length ps' + 1) m (potential_at 𝓖 ps') → ps ≡ ps'
  same_filling m ps ps' count one other =
      ext_get_or 𝓖.zero ps ps' count
      (λ i l.
      let same = one.only (potential_at 𝓖 ps') other.satisfies (λ v lv. other.grounded v (omega arith)) (i + 1) (omega arith) in
      sym (node_potential 𝓖 ps i) ∙ sym same ∙ node_potential 𝓖 ps' i)

  solved_not_refuted : (m n k : ℕ) (p : ℕ → G) → Solved 𝓖 R n m p → Refuted 𝓖 R m k → ⊥
  solved_not_refuted m n k p s r = closed_not_refuted 𝓖 R m k (potentials_close_walks 𝓖 R m p s.satisfies) r

pub one_answer : {G : Type 0} (𝓖 : Group G) → OneAnswer 𝓖
one_answer 𝓖 rows R old new new' (Ok WalksClose) (Ok WalksClose) t t' = (refl, same_filling 𝓖 R (length rows) new new' (t.1 ∙ sym t'.1) t.2 t'.2)
one_answer 𝓖 rows R old new new' (Ok WalksClose) (Ok (SomeWalkFails k)) t t' = absurd (solved_not_refuted 𝓖 R (length rows) _ k _ t.2 t'.2.0)
one_answer 𝓖 rows R old new new' (Ok (SomeWalkFails k)) (Ok WalksClose) t t' = absurd (solved_not_refuted 𝓖 R (length rows) _ k _ t'.2 t.2.0)
one_answer 𝓖 rows R old new new' (Ok (SomeWalkFails k)) (Ok (SomeWalkFails k')) t t' =
    (ap (λ j. Ok (SomeWalkFails j)) (one_refuted 𝓖 R (length rows) k k' t.2.0 t'.2.0), t.2.1 ∙ ap (λ n. replicate n 𝓖.zero) (t.1 ∙ sym t'.1) ∙ sym t'.2.1)
one_answer 𝓖 rows R old new new' (Ok finding) (Err why) t t' = cc
one_answer 𝓖 rows R old new new' (Err why) (Ok finding) t t' = cc
one_answer 𝓖 rows R old new new' (Err why) (Err why') t t' = (cc, t.1 ∙ sym t'.1)
