-- Walks made short: where a walk comes to a vertex again, what lies between is a closed walk and can be left out.
use Rattle.std.proofs.Common.{◌≡◌, ◌≢◌, ℕ, zero, suc, ◌<◌, ◌≤◌, true, false, List, [], ◌∷◌, ◌++◌, map, length, eqb, ◌⊎◌, inl, inr, sym, refl, ap, ◌∙◌, subst, ap₂, ⊎_elim, arith}
use Rattle.std.specs.List.{AllByRecursion, IsDistinct, list_any}
use Rattle.std.proofs.lemmas.Bool.{eqb-true, ne_eqb, cases_eq, or_cases}
use Rattle.std.proofs.lemmas.List.{length-append, length-map}
use Rattle.std.proofs.lemmas.Map.Steps.{length-le_from_distinct_below}
use Rattle.quantity.specs.Group.{Group}
use Rattle.quantity.proofs.Groups.{swap}
use Rattle.network.specs.Walks.{Network, Within, Step, forward, backward, Walk, walk_sum, SomeWalkFails}
use Rattle.network.proofs.Reaching.{walk_append, sum_append}

module _ {G : Type 0} (R : Network G) where
  -- the vertex that a step leaves
  abbrev source : Step → ℕ
  source (forward j) = R.tail j
  source (backward j) = R.head j

  walk_source : (k a b : ℕ) (x : Step) (s : List Step) → Walk R k a (x ∷ s) b → a ≡ source x
  walk_source k a b (forward j) s w = w.1
  walk_source k a b (backward j) s w = w.1

  walk_cut : (k a b : ℕ) (s t : List Step) → Walk R k a (s ++ t) b → (v : ℕ) × Walk R k a s v × Walk R k v t b
  walk_cut k a b [] t w = (a, refl, w)
  walk_cut k a b (forward j ∷ s) t w = let r = walk_cut k (R.head j) b s t w.2 in (r.0, (w.0, w.1, r.1), r.2)
  walk_cut k a b (backward j ∷ s) t w = let r = walk_cut k (R.tail j) b s t w.2 in (r.0, (w.0, w.1, r.1), r.2)

  -- the steps `first` and `again` leave the same vertex
  record Again (s : List Step) : Type 0 where
    before : List Step
    first : Step
    between : List Step
    again : Step
    after : List Step
    is : s ≡ before ++ (first ∷ (between ++ (again ∷ after)))
    same : source first ≡ source again

  -- a step of the walk that leaves the vertex v, and the steps round it
  abbrev Leaving : ℕ → List Step → Type 0
  Leaving v s = (between : List Step) × (again : Step) × (after : List Step) × (s ≡ between ++ (again ∷ after)) × (v ≡ source again)

  leaving : (v : ℕ) (s : List Step) → Leaving v s ⊎ AllByRecursion (λ u. eqb v u ≡ false) (map source s)
  leaving v [] = inr tt
  leaving v (x ∷ s) =
      ⊎_elim
      (λ e. inl ([], x, s, refl, e))
      (λ ne.
      ⊎_elim
      (λ f. inl (x ∷ f.0, f.1, f.2, ap (λ (t : List Step). x ∷ t) f.3, f.4))
      (λ apart. inr (ne_eqb v (source x) ne, apart))
      (leaving v s))
      (cases_eq v (source x))

  again_or_distinct : (s : List Step) → Again s ⊎ IsDistinct eqb (map source s)
  unfolding IsDistinct
  again_or_distinct [] = inr tt
  again_or_distinct (x ∷ s) =
      ⊎_elim
      (λ f. inl (record { before = []; first = x; between = f.0; again = f.1; after = f.2; is = ap (λ (t : List Step). x ∷ t) f.3; same = f.4 }))
      (λ apart.
      ⊎_elim
      (λ r. inl (record { before = x ∷ r.before; first = r.first; between = r.between; again = r.again; after = r.after; is = ap (λ (t : List Step). x ∷ t) r.is; same = r.same }))
      (λ distinct. inr (apart, distinct))
      (again_or_distinct s))
      (leaving (source x) s)

  sources_below : (n k : ℕ) → Within R n k → (a b : ℕ) (s : List Step) → Walk R k a s b → (v : ℕ) → list_any (eqb v) (map source s) ≡ true → v < n
  sources_below n k within a b [] w v found = absurd (cc)
  sources_below n k within a b (forward j ∷ s) w v found =
      ⊎_elim
      (λ e. let is = eqb-true v (R.tail j) e in omega (arith, (within j w.0).0))
      (sources_below n k within (R.head j) b s w.2 v)
      (or_cases (eqb v (R.tail j)) (list_any (eqb v) (map source s)) found)
  sources_below n k within a b (backward j ∷ s) w v found =
      ⊎_elim
      (λ e. let is = eqb-true v (R.head j) e in omega (arith, (within j w.0).1))
      (sources_below n k within (R.tail j) b s w.2 v)
      (or_cases (eqb v (R.head j)) (list_any (eqb v) (map source s)) found)

  again_or_short : (n k : ℕ) → Within R n k → (a b : ℕ) (s : List Step) → Walk R k a s b → Again s ⊎ (length s ≤ n)
  again_or_short n k within a b s w =
      ⊎_elim
      (λ r. inl r)
      (λ distinct. inr (omega (arith, length-le_from_distinct_below (map source s) n distinct (sources_below n k within a b s w), length-map s source)))
      (again_or_distinct s)

module _ {G : Type 0} (𝓖 : Group G) (R : Network G) (k : ℕ) where
  -- a walk taken apart into a shorter one and a closed one
  record Apart (a b : ℕ) (s : List Step) : Type 0 where
    rest : List Step
    vertex : ℕ
    loop : List Step
    walk : Walk R k a rest b
    closed : Walk R k vertex loop vertex
    rest_shorter : length rest < length s
    loop_shorter : length loop < length s
    sum : walk_sum 𝓖 R s ≡ 𝓖.sum (walk_sum 𝓖 R loop) (walk_sum 𝓖 R rest)

  apart : (a b : ℕ) (s : List Step) → Walk R k a s b → Again R s → Apart a b s
  apart a b s w r =
      let loop = r.first ∷ r.between in
      let tail = r.again ∷ r.after in
      let front = walk_cut R k a b r.before (loop ++ tail) (subst (λ (t : List Step). Walk R k a t b) r.is w) in
      let back = walk_cut R k front.0 b loop tail front.2 in
      let closes : back.0 ≡ front.0 = sym (walk_source R k front.0 b r.first (r.between ++ tail) front.2 ∙ r.same ∙ sym (walk_source R k back.0 b r.again r.after back.2)) in
      let long = ap length r.is ∙ length-append r.before (loop ++ tail) in
      record {
        rest = r.before ++ tail;
        vertex = front.0;
        loop = loop;
        walk = walk_append R k a front.0 b r.before tail front.1 (subst (λ (v : ℕ). Walk R k v tail b) closes back.2);
        closed = subst (λ (v : ℕ). Walk R k front.0 loop v) closes back.1;
        rest_shorter = omega (arith, long, length-append r.before tail, length-append loop tail);
        loop_shorter = omega (arith, long, length-append loop tail);
        sum =
            ap (walk_sum 𝓖 R) r.is ∙ sum_append 𝓖 R r.before (loop ++ tail) ∙ ap (𝓖.sum (walk_sum 𝓖 R r.before)) (sum_append 𝓖 R loop tail)
            ∙ swap 𝓖 (walk_sum 𝓖 R r.before) (walk_sum 𝓖 R loop) (walk_sum 𝓖 R tail) ∙ ap (𝓖.sum (walk_sum 𝓖 R loop)) (sym (sum_append 𝓖 R r.before tail));
      }

  module _ (n : ℕ) (within : Within R n k) where
    apart_or_short : (a b : ℕ) (s : List Step) → Walk R k a s b → Apart a b s ⊎ (length s ≤ n)
    apart_or_short a b s w = ⊎_elim (λ r. inl (apart a b s w r)) (λ short. inr short) (again_or_short R n k within a b s w)

    abbrev Short : ℕ → ℕ → Type 0
    Short a b = (s : List Step) × Walk R k a s b × (length s ≤ n)

    shortened_from : (m a b : ℕ) (s : List Step) → length s < m → Walk R k a s b → Short a b
    shortened_from zero a b s l w = absurd (omega arith)
    shortened_from (suc m) a b s l w =
        ⊎_elim
        (λ p. shortened_from m a b p.rest (let shorter = p.rest_shorter in omega arith) p.walk)
        (λ short. (s, w, short))
        (apart_or_short a b s w)

    -- where some walk leads from a to b, a short one does
    pub shortened : (a b : ℕ) (s : List Step) → Walk R k a s b → Short a b
    shortened a b s w = shortened_from (suc (length s)) a b s (omega arith) w

    abbrev Fails : Type 0
    Fails = (a : ℕ) × (s : List Step) × Walk R k a s a × (length s ≤ n) × (walk_sum 𝓖 R s ≢ 𝓖.zero)

    module _ (zero_or_not : (x : G) → (x ≡ 𝓖.zero) ⊎ (x ≢ 𝓖.zero)) where
      fails_from : (m a : ℕ) (s : List Step) → length s < m → Walk R k a s a → walk_sum 𝓖 R s ≢ 𝓖.zero → Fails
      fails_from zero a s l w some = absurd (omega arith)
      fails_from (suc m) a s l w some =
          ⊎_elim
          (λ p.
          let rest_shorter = p.rest_shorter in
          let loop_shorter = p.loop_shorter in
          ⊎_elim
          (λ none. fails_from m a p.rest (omega arith) p.walk (λ too. some (p.sum ∙ ap₂ 𝓖.sum none too ∙ 𝓖.neutral 𝓖.zero)))
          (λ not_so. fails_from m p.vertex p.loop (omega arith) p.closed not_so)
          (zero_or_not (walk_sum 𝓖 R p.loop)))
          (λ short. (a, s, w, short, some))
          (apart_or_short a a s w)

      -- where some closed walk does not add to zero, a short one does not
      pub fails_short : SomeWalkFails 𝓖 R k → Fails
      fails_short u = fails_from (suc (length u.1)) u.0 u.1 (omega arith) u.2 u.3
