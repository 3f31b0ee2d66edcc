-- One row more of the check, and what it comes to.
use Rattle.std.proofs.Common.{◌≡◌, ℕ, ◌+◌, ◌<◌, ◌≤◌, Bool, true, false, [], Decides, MatchBool, sym, refl, ap, ◌∙◌, subst, ap₂, ⊎_elim, arith, below_more}
use Rattle.std.proofs.lemmas.Bool.{cases_eq, false≢true}
use Rattle.quantity.specs.Group.{Group, minus}
use Rattle.network.specs.Walks.{Network, Within, Walk, WalksClose, SomeWalkFails, Lowest, Solved}
use Rattle.network.specs.Settled.{Reaches, Settled, Moved}
use Rattle.quantity.proofs.Groups.{minus_zero, sum_minus, minus_sum, minus_shift, negation_minus, negation_negation, swap, same_from_minus}
use Rattle.network.proofs.Walking.{walk_adds, potentials_close_walks}
use Rattle.network.proofs.Reaching.{walk_keeps, walk_within, reach_more, reach_then, reach_back, reach_over}

-- how far the reading of row k is from the difference of the potentials at its ends
abbrev pub gap_at : {G : Type 0} → Group G → Network G → (ℕ → G) → ℕ → G
gap_at 𝓖 R p k = minus 𝓖 (R.reading k) (minus 𝓖 (p (R.tail k)) (p (R.head k)))

module _ {G : Type 0} (𝓖 : Group G) (R : Network G) (n : ℕ) where
  pub start : (label : ℕ → ℕ) (p : ℕ → G) → ((v : ℕ) → v < n → label v ≡ v) → ((v : ℕ) → v < n → p v ≡ 𝓖.zero) → Settled 𝓖 R n 0 label p
  start label p own none =
      record {
        low = λ v l. omega (arith, own v l);
        fixed = λ v l. ap label (own v l);
        ground = λ v l. ap p (own v l) ∙ none v l;
        joined = λ j l. absurd (omega arith);
        satisfies = λ j l. absurd (omega arith);
        walks = λ v l. ([], sym (own v l), sym (none v l));
      }

  module _ (k : ℕ) (label : ℕ → ℕ) (p : ℕ → G) (settled : Settled 𝓖 R n k label p) where
    pub settled_closes : WalksClose 𝓖 R k
    settled_closes = potentials_close_walks 𝓖 R k p settled.satisfies

    -- a lowest vertex is its own label
    lowest_own : (v : ℕ) → v < n → Lowest R k v → label v ≡ v
    lowest_own v l lowest = let r = settled.walks v l in omega (arith, lowest (label v) r.0 r.1, settled.low v l)

    label_lowest : Within R n k → (v : ℕ) → v < n → Lowest R k (label v)
    label_lowest within v l u s w =
        let same = walk_keeps R label k settled.joined (label v) u s w in
        let inside = walk_within R n k within (label v) u s (omega (arith, settled.low v l)) w in
        omega (arith, same, settled.fixed v l, settled.low u inside)

    pub settled_solves : Within R n k → Solved 𝓖 R n k p
    settled_solves within =
        record {
          satisfies = settled.satisfies;
          grounded = λ v l lowest. ap p (sym (lowest_own v l lowest)) ∙ settled.ground v l;
          only = λ q fits grounded v l.
              let r = settled.walks v l in
              let zero-there = grounded (label v) (omega (arith, settled.low v l)) (label_lowest within v l) in
              let added = walk_adds 𝓖 R k q fits v (label v) r.0 r.1 in
              sym (minus_zero 𝓖 (q v)) ∙ ap (minus 𝓖 (q v)) (sym zero-there) ∙ sym added ∙ r.2;
        }

    abbrev a : ℕ
    a = R.tail k

    abbrev b : ℕ
    b = R.head k

    walks_more : (v : ℕ) → v < n → Reaches 𝓖 R (k + 1) v (label v) (p v)
    walks_more v l = reach_more 𝓖 R k (k + 1) v (label v) (p v) (omega arith) (settled.walks v l)

    -- a row within one part that fits
    pub row_fits : label a ≡ label b → R.reading k ≡ minus 𝓖 (p a) (p b) → Settled 𝓖 R n (k + 1) label p
    row_fits same fits =
        record {
          low = settled.low;
          fixed = settled.fixed;
          ground = settled.ground;
          joined = below_more (λ j. label (R.tail j) ≡ label (R.head j)) k settled.joined same;
          satisfies = below_more (λ j. R.reading j ≡ minus 𝓖 (p (R.tail j)) (p (R.head j))) k settled.satisfies fits;
          walks = walks_more;
        }

    -- over the row, and back within its part
    round : a < n → b < n → label a ≡ label b → Reaches 𝓖 R (k + 1) a a (gap_at 𝓖 R p k)
    round la lb same =
        let home : Reaches 𝓖 R (k + 1) b (label a) (p b) = subst (λ v. Reaches 𝓖 R (k + 1) b v (p b)) (sym same) (walks_more b lb) in
        let away = reach_back 𝓖 R (k + 1) a (label a) (p a) (walks_more a la) in
        let r = reach_then 𝓖 R (k + 1) a b a _ _ (reach_over 𝓖 R (k + 1) k (omega arith)) (reach_then 𝓖 R (k + 1) b (label a) a _ _ home away) in
        (r.0, r.1, r.2 ∙ ap (𝓖.sum (R.reading k)) (sym (negation_minus 𝓖 (p a) (p b))))

    pub row_decides : a < n → b < n → label a ≡ label b → (fits : Bool) → Decides fits (gap_at 𝓖 R p k ≡ 𝓖.zero) → MatchBool fits (Settled 𝓖 R n (k + 1) label p) (SomeWalkFails 𝓖 R (k + 1))
    row_decides la lb same true decides = row_fits same (same_from_minus 𝓖 _ _ (decides.0 refl))
    row_decides la lb same false decides = let r = round la lb same in (a, r.0, r.1, λ none. false≢true (decides.1 (sym r.2 ∙ none)))

    -- where every closed walk adds to zero, a row within one part fits
    pub row_fits_closing : a < n → b < n → label a ≡ label b → WalksClose 𝓖 R (k + 1) → Settled 𝓖 R n (k + 1) label p
    row_fits_closing la lb same closing = let r = round la lb same in row_fits same (same_from_minus 𝓖 _ _ (sym r.2 ∙ closing a r.0 r.1))

    module _ (label' : ℕ → ℕ) (p' : ℕ → G) where
      -- the part of c goes over to the part of d, along a step from c to d that adds y
      module _ (c d : ℕ) (y : G) (lc : c < n) (ld : d < n) (lower : label d < label c) (step : Reaches 𝓖 R (k + 1) c d y)
          (change : Moved 𝓖 n (label c) (label d) (𝓖.sum y (minus 𝓖 (p d) (p c))) label p label' p') where
        abbrev shift : G
        shift = 𝓖.sum y (minus 𝓖 (p d) (p c))

        -- from label to label
        bridge : Reaches 𝓖 R (k + 1) (label c) (label d) shift
        bridge =
            let out = reach_back 𝓖 R (k + 1) c (label c) (p c) (walks_more c lc) in
            let r = reach_then 𝓖 R (k + 1) (label c) c (label d) _ _ out (reach_then 𝓖 R (k + 1) c d (label d) _ _ step (walks_more d ld)) in
            (r.0, r.1, r.2 ∙ swap 𝓖 (𝓖.negation (p c)) y (p d) ∙ ap (𝓖.sum y) (𝓖.commutative _ _))

        either : (P : ℕ → Type 0) → ((v : ℕ) → v < n → label v ≡ label c → P v) → ((v : ℕ) → v < n → (label v ≡ label c → ⊥) → P v) → (v : ℕ) → v < n → P v
        either P yes-so not_so v l = ⊎_elim (yes-so v l) (not_so v l) (cases_eq (label v) (label c))

        -- a label that stays has its potential and its own label as they were
        own_kept : (v : ℕ) → v < n → (label v ≡ label c → ⊥) → (label' (label v) ≡ label v) × (p' (label v) ≡ 𝓖.zero)
        own_kept v l ne =
            let inside : label v < n = omega (arith, settled.low v l) in
            let same = change.kept (label v) inside (λ e. ne (sym (settled.fixed v l) ∙ e)) in
            (same.0 ∙ settled.fixed v l, same.1 ∙ settled.ground v l)

        target : (label' (label d) ≡ label d) × (p' (label d) ≡ 𝓖.zero)
        target = own_kept d ld (λ e. omega arith)

        low' : (v : ℕ) → v < n → label' v ≤ v
        low' = either (λ v. label' v ≤ v)
            (λ v l e. omega (arith, (change.moved v l e).0, settled.low v l))
            (λ v l ne. omega (arith, (change.kept v l ne).0, settled.low v l))

        fixed' : (v : ℕ) → v < n → label' (label' v) ≡ label' v
        fixed' = either (λ v. label' (label' v) ≡ label' v)
            (λ v l e. let to = (change.moved v l e).0 in ap label' to ∙ target.0 ∙ sym to)
            (λ v l ne. let to = (change.kept v l ne).0 in ap label' to ∙ (own_kept v l ne).0 ∙ sym to)

        ground' : (v : ℕ) → v < n → p' (label' v) ≡ 𝓖.zero
        ground' = either (λ v. p' (label' v) ≡ 𝓖.zero)
            (λ v l e. ap p' (change.moved v l e).0 ∙ target.1)
            (λ v l ne. ap p' (change.kept v l ne).0 ∙ (own_kept v l ne).1)

        walks' : (v : ℕ) → v < n → Reaches 𝓖 R (k + 1) v (label' v) (p' v)
        walks' = either (λ v. Reaches 𝓖 R (k + 1) v (label' v) (p' v))
            (λ v l e.
            let to = change.moved v l e in
            let home : Reaches 𝓖 R (k + 1) v (label c) (p v) = subst (λ u. Reaches 𝓖 R (k + 1) v u (p v)) e (walks_more v l) in
            let r = reach_then 𝓖 R (k + 1) v (label c) (label d) _ _ home bridge in
            (r.0, subst (λ u. Walk R (k + 1) v r.0 u) (sym to.0) r.1, r.2 ∙ sym to.1))
            (λ v l ne.
            let to = change.kept v l ne in
            let r = walks_more v l in
            (r.0, subst (λ u. Walk R (k + 1) v r.0 u) (sym to.0) r.1, r.2 ∙ sym to.1))

        -- a row of before: both ends move, or neither
        earlier : (t h : ℕ) → t < n → h < n → label t ≡ label h → (label' t ≡ label' h) × (minus 𝓖 (p' t) (p' h) ≡ minus 𝓖 (p t) (p h))
        earlier t h lt lh same =
            ⊎_elim
            (λ e.
            let x = change.moved t lt e in
            let z = change.moved h lh (sym same ∙ e) in
            (x.0 ∙ sym z.0, ap₂ (minus 𝓖) x.1 z.1 ∙ minus_shift 𝓖 _ _ _))
            (λ ne.
            let x = change.kept t lt ne in
            let z = change.kept h lh (λ e. ne (same ∙ e)) in
            (x.0 ∙ same ∙ sym z.0, ap₂ (minus 𝓖) x.1 z.1))
            (cases_eq (label t) (label c))

        -- the new row
        joined_now : label' c ≡ label' d
        joined_now = (change.moved c lc refl).0 ∙ sym (change.kept d ld (λ e. omega arith)).0

        fits_now : y ≡ minus 𝓖 (p' c) (p' d)
        fits_now =
            let high = (change.moved c lc refl).1 ∙ swap 𝓖 (p c) y _ ∙ ap (𝓖.sum y) (minus_sum 𝓖 (p c) (p d)) in
            sym (ap₂ (minus 𝓖) high (change.kept d ld (λ e. omega arith)).1 ∙ sum_minus 𝓖 y (p d))

        joins : Within R n (k + 1) → label' a ≡ label' b → R.reading k ≡ minus 𝓖 (p' a) (p' b) → Settled 𝓖 R n (k + 1) label' p'
        joins within same fits =
            let old = λ (j : ℕ) (l : j < k). let ends = within j (omega arith) in earlier (R.tail j) (R.head j) ends.0 ends.1 (settled.joined j l) in
            record {
              low = low';
              fixed = fixed';
              ground = ground';
              joined = below_more (λ j. label' (R.tail j) ≡ label' (R.head j)) k (λ j l. (old j l).0) same;
              satisfies = below_more (λ j. R.reading j ≡ minus 𝓖 (p' (R.tail j)) (p' (R.head j))) k (λ j l. settled.satisfies j l ∙ sym (old j l).1) fits;
              walks = walks';
            }

      -- the tail's part goes over to the head's
      pub tail_joins : Within R n (k + 1) → label b < label a → Moved 𝓖 n (label a) (label b) (gap_at 𝓖 R p k) label p label' p' → Settled 𝓖 R n (k + 1) label' p'
      tail_joins within lower change =
          let ends = within k (omega arith) in
          let x = R.reading k in
          let over = reach_over 𝓖 R (k + 1) k (omega arith) in
          let shift = ap (𝓖.sum x) (negation_minus 𝓖 (p a) (p b)) in
          let change' = subst (λ y. Moved 𝓖 n (label a) (label b) y label p label' p') shift change in
          joins a b x ends.0 ends.1 lower over change' within
          (joined_now a b x ends.0 ends.1 lower over change')
          (fits_now a b x ends.0 ends.1 lower over change')

      -- the head's part goes over to the tail's
      pub head_joins : Within R n (k + 1) → label a < label b → Moved 𝓖 n (label b) (label a) (𝓖.negation (gap_at 𝓖 R p k)) label p label' p' → Settled 𝓖 R n (k + 1) label' p'
      head_joins within lower change =
          let ends = within k (omega arith) in
          let x = 𝓖.negation (R.reading k) in
          let over = reach_back 𝓖 R (k + 1) a b (R.reading k) (reach_over 𝓖 R (k + 1) k (omega arith)) in
          let shift = negation_minus 𝓖 (R.reading k) (minus 𝓖 (p a) (p b)) ∙ 𝓖.commutative _ _ in
          let change' = subst (λ y. Moved 𝓖 n (label b) (label a) y label p label' p') shift change in
          let fits = fits_now b a x ends.1 ends.0 lower over change' in
          joins b a x ends.1 ends.0 lower over change' within
          (sym (joined_now b a x ends.1 ends.0 lower over change'))
          (sym (negation_negation 𝓖 _) ∙ ap 𝓖.negation fits ∙ negation_minus 𝓖 _ _)
