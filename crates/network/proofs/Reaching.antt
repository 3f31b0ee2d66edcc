-- Walks put together, turned round and followed.
use Rattle.std.proofs.Common.{◌≡◌, ℕ, ◌<◌, ◌≤◌, List, [], ◌∷◌, ◌++◌, sym, refl, ap, ◌∙◌, subst, ap₂, arith}
use Rattle.quantity.specs.Group.{Group}
use Rattle.network.specs.Walks.{Network, Within, Step, forward, backward, Walk, walk_sum}
use Rattle.network.specs.Settled.{Reaches}
use Rattle.quantity.proofs.Groups.{right, negation_zero, negation_sum, negation_negation}

-- the steps from the last to the first, each the other way
abbrev back : List Step → List Step
back [] = []
back (forward j ∷ s) = back s ++ (backward j ∷ [])
back (backward j ∷ s) = back s ++ (forward j ∷ [])

module _ {G : Type 0} (R : Network G) where
  pub walk_more : (k m a b : ℕ) (s : List Step) → k ≤ m → Walk R k a s b → Walk R m a s b
  walk_more k m a b [] l e = e
  walk_more k m a b (forward j ∷ s) l w = (omega (arith, w.0), w.1, walk_more k m (R.head j) b s l w.2)
  walk_more k m a b (backward j ∷ s) l w = (omega (arith, w.0), w.1, walk_more k m (R.tail j) b s l w.2)

  pub walk_append : (k a b c : ℕ) (s t : List Step) → Walk R k a s b → Walk R k b t c → Walk R k a (s ++ t) c
  walk_append k a b c [] t e w = subst (λ v. Walk R k v t c) (sym e) w
  walk_append k a b c (forward j ∷ s) t v w = (v.0, v.1, walk_append k (R.head j) b c s t v.2 w)
  walk_append k a b c (backward j ∷ s) t v w = (v.0, v.1, walk_append k (R.tail j) b c s t v.2 w)

  walk_back : (k a b : ℕ) (s : List Step) → Walk R k a s b → Walk R k b (back s) a
  walk_back k a b [] e = sym e
  walk_back k a b (forward j ∷ s) w = walk_append k b (R.head j) a (back s) (backward j ∷ []) (walk_back k (R.head j) b s w.2) (w.0, refl, sym w.1)
  walk_back k a b (backward j ∷ s) w = walk_append k b (R.tail j) a (back s) (forward j ∷ []) (walk_back k (R.tail j) b s w.2) (w.0, refl, sym w.1)

  -- what rows below k do not change, no walk along them changes
  pub walk_keeps : {X : Type 0} (f : ℕ → X) (k : ℕ) → ((j : ℕ) → j < k → f (R.tail j) ≡ f (R.head j)) → (a b : ℕ) (s : List Step) → Walk R k a s b → f a ≡ f b
  walk_keeps f k same a b [] e = ap f e
  walk_keeps f k same a b (forward j ∷ s) w = ap f w.1 ∙ same j w.0 ∙ walk_keeps f k same (R.head j) b s w.2
  walk_keeps f k same a b (backward j ∷ s) w = ap f w.1 ∙ sym (same j w.0) ∙ walk_keeps f k same (R.tail j) b s w.2

  pub walk_within : (n k : ℕ) → Within R n k → (a b : ℕ) (s : List Step) → a < n → Walk R k a s b → b < n
  walk_within n k within a b [] l e = omega arith
  walk_within n k within a b (forward j ∷ s) l w = walk_within n k within (R.head j) b s (within j w.0).1 w.2
  walk_within n k within a b (backward j ∷ s) l w = walk_within n k within (R.tail j) b s (within j w.0).0 w.2

module _ {G : Type 0} (𝓖 : Group G) (R : Network G) where
  pub sum_append : (s t : List Step) → walk_sum 𝓖 R (s ++ t) ≡ 𝓖.sum (walk_sum 𝓖 R s) (walk_sum 𝓖 R t)
  sum_append [] t = sym (𝓖.neutral _)
  sum_append (forward j ∷ s) t = ap (𝓖.sum (R.reading j)) (sum_append s t) ∙ sym (𝓖.associative _ _ _)
  sum_append (backward j ∷ s) t = ap (𝓖.sum (𝓖.negation (R.reading j))) (sum_append s t) ∙ sym (𝓖.associative _ _ _)

  sum_back : (s : List Step) → walk_sum 𝓖 R (back s) ≡ 𝓖.negation (walk_sum 𝓖 R s)
  sum_back [] = sym (negation_zero 𝓖)
  sum_back (forward j ∷ s) =
      sum_append (back s) (backward j ∷ [])
      ∙ ap₂ 𝓖.sum (sum_back s) (right 𝓖 _) ∙ 𝓖.commutative _ _ ∙ sym (negation_sum 𝓖 _ _)
  sum_back (backward j ∷ s) =
      sum_append (back s) (forward j ∷ [])
      ∙ ap₂ 𝓖.sum (sum_back s) (right 𝓖 _ ∙ sym (negation_negation 𝓖 _)) ∙ 𝓖.commutative _ _ ∙ sym (negation_sum 𝓖 _ _)

  pub reach_more : (k m a b : ℕ) (x : G) → k ≤ m → Reaches 𝓖 R k a b x → Reaches 𝓖 R m a b x
  reach_more k m a b x l r = (r.0, walk_more R k m a b r.0 l r.1, r.2)

  pub reach_then : (k a b c : ℕ) (x y : G) → Reaches 𝓖 R k a b x → Reaches 𝓖 R k b c y → Reaches 𝓖 R k a c (𝓖.sum x y)
  reach_then k a b c x y r t = (r.0 ++ t.0, walk_append R k a b c r.0 t.0 r.1 t.1, sum_append r.0 t.0 ∙ ap₂ 𝓖.sum r.2 t.2)

  pub reach_back : (k a b : ℕ) (x : G) → Reaches 𝓖 R k a b x → Reaches 𝓖 R k b a (𝓖.negation x)
  reach_back k a b x r = (back r.0, walk_back R k a b r.0 r.1, sum_back r.0 ∙ ap 𝓖.negation r.2)

  pub reach_over : (k j : ℕ) → j < k → Reaches 𝓖 R k (R.tail j) (R.head j) (R.reading j)
  reach_over k j l = (forward j ∷ [], (l, refl, refl), right 𝓖 _)
