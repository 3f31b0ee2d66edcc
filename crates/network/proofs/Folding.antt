-- The check as a fold over the rows: potentials for every network whose closed walks add to zero.
use Rattle.std.proofs.Common.{ℕ, zero, suc, ◌+◌, cond, eqb, sym, refl, subst, ⊎_elim, add-one, arith}
use Rattle.std.proofs.lemmas.Bool.{eq-eqb, ne_eqb, cases_order, cond-true, cond-false}
use Rattle.quantity.specs.Group.{Group}
use Rattle.network.specs.Walks.{Network, Within, WalksClose, ClosingHasPotentials}
use Rattle.network.specs.Settled.{Settled, Moved}
use Rattle.network.proofs.Reaching.{walk_more}
use Rattle.network.proofs.Settling.{gap_at, start, row_fits_closing, tail_joins, head_joins, settled_solves}

module _ {G : Type 0} (𝓖 : Group G) where
  abbrev label_moved : ℕ → ℕ → (ℕ → ℕ) → ℕ → ℕ
  label_moved from to label v = cond (eqb (label v) from) to (label v)

  abbrev potential_moved : ℕ → G → (ℕ → ℕ) → (ℕ → G) → ℕ → G
  potential_moved from shift label p v = cond (eqb (label v) from) (𝓖.sum (p v) shift) (p v)

  moves : (n from to : ℕ) (shift : G) (label : ℕ → ℕ) (p : ℕ → G) → Moved 𝓖 n from to shift label p (label_moved from to label) (potential_moved from shift label p)
  moves n from to shift label p =
      record {
        moved = λ v _ e. let t = eq-eqb (label v) from e in (cond-true _ _ _ t, cond-true _ _ _ t);
        kept = λ v _ ne. let f = ne_eqb (label v) from ne in (cond-false _ _ _ f, cond-false _ _ _ f);
      }

  module _ (R : Network G) (n : ℕ) where
    abbrev pub State : ℕ → Type 0
    State k = (label : ℕ → ℕ) × (p : ℕ → G) × Settled 𝓖 R n k label p

    next : (k : ℕ) → Within R n (k + 1) → WalksClose 𝓖 R (k + 1) → State k → State (k + 1)
    next k within closing (label, p, settled) =
        let a = R.tail k in
        let b = R.head k in
        let ends = within k (omega arith) in
        let gap = gap_at 𝓖 R p k in
        ⊎_elim
        (λ same. (label, p, row_fits_closing 𝓖 R n k label p settled ends.0 ends.1 same closing))
        (⊎_elim
        (λ below. (label_moved (label b) (label a) label, potential_moved (label b) (𝓖.negation gap) label p, head_joins 𝓖 R n k label p settled _ _ within below (moves n (label b) (label a) (𝓖.negation gap) label p)))
        (λ above. (label_moved (label a) (label b) label, potential_moved (label a) gap label p, tail_joins 𝓖 R n k label p settled _ _ within above (moves n (label a) (label b) gap label p))))
        (cases_order (label a) (label b))

    pub state : (k : ℕ) → Within R n k → WalksClose 𝓖 R k → State k
    state zero within closing = (λ v. v, λ _. 𝓖.zero, start 𝓖 R n (λ v. v) (λ _. 𝓖.zero) (λ v _. refl) (λ v _. refl))
    state (suc k) within closing =
        let more = sym (add-one k) in
        let before = state k (λ j l. within j (omega arith)) (λ a s w. closing a s (walk_more R k (suc k) a a s (omega arith) w)) in
        subst State (add-one k) (next k (subst (Within R n) more within) (subst (WalksClose 𝓖 R) more closing) before)

  pub closing_has_potentials : ClosingHasPotentials 𝓖
  closing_has_potentials R n m within closing =
      let s = state R n m within closing in
      (s.1, settled_solves 𝓖 R n m s.0 s.1 s.2 within)
