-- A part moves vertex by vertex.
use Rattle.std.proofs.Common.{◌≡◌, ℕ, zero, suc, ◌+◌, ◌<◌, ◌≤◌, ◌≢◌, List, length, get_or, slice_index, set, sym, refl, ap, ◌∙◌, add-one, arith, below_more, get_or-set_same, get_or-set_other}
use Rattle.quantity.specs.Group.{Group}
use Rattle.network.specs.Settled.{Moved}
use Rattle.walk_test.specs.Potentials.{potential_at}

module _ {G : Type 0} (𝓖 : Group G) (ps : List G) where
  -- node i is vertex i + 1
  pub node_potential : (i : ℕ) → potential_at 𝓖 ps (i + 1) ≡ get_or ps i 𝓖.zero
  node_potential i = ap (potential_at 𝓖 ps) (add-one i)

module _ {G : Type 0} (𝓖 : Group G) (ps : List G) (i : ℕ) (x : G) where
  -- a write changes the potential of its own vertex, and of no other
  set_here : i < length ps → potential_at 𝓖 (set ps i x) (i + 1) ≡ x
  set_here l = node_potential 𝓖 (set ps i x) i ∙ get_or-set_same ps i x 𝓖.zero l

  set_elsewhere : (u : ℕ) → u ≢ i + 1 → potential_at 𝓖 (set ps i x) u ≡ potential_at 𝓖 ps u
  set_elsewhere zero ne = refl
  set_elsewhere (suc u) ne = get_or-set_other ps i u x 𝓖.zero (λ e. ne (ap suc e ∙ sym (add-one i)))

module _ {G : Type 0} (𝓖 : Group G) (from to : ℕ) (shift : G) (ls : List ℕ) (ps : List G) where
  -- the vertices below v are moved, and the others are as they were
  pub record Moving (v : ℕ) (ls' : List ℕ) (ps' : List G) : Type 0 where
    pub below : Moved 𝓖 v from to shift (slice_index ls) (potential_at 𝓖 ps) (slice_index ls') (potential_at 𝓖 ps')
    pub above : (u : ℕ) → v ≤ u → (slice_index ls' u ≡ slice_index ls u) × (potential_at 𝓖 ps' u ≡ potential_at 𝓖 ps u)

  module _ (v : ℕ) (ls' : List ℕ) (ps' : List G) (so-far : Moving v ls' ps') where
    -- a vertex of another part stays
    pub keeps : slice_index ls' v ≢ from → Moving (v + 1) ls' ps'
    keeps other =
        let here = so-far.above v (omega arith) in
        record {
          below = record {
            moved = below_more _ v so-far.below.moved (λ e. absurd (other (here.0 ∙ e)));
            kept = below_more _ v so-far.below.kept (λ _. here);
          };
          above = λ u l. so-far.above u (omega arith);
        }

  module _ (i : ℕ) (ls' : List ℕ) (ps' : List G) (so-far : Moving (i + 1) ls' ps') where
    -- node i is of the part, and moves
    pub moves : (x : G) → i + 1 < length ls' → i < length ps' → slice_index ls' (i + 1) ≡ from → x ≡ 𝓖.sum (get_or ps' i 𝓖.zero) shift → Moving (i + 1 + 1) (set ls' (i + 1) to) (set ps' i x)
    moves x lls lps this raised =
        let here = so-far.above (i + 1) (omega arith) in
        let apart : (u : ℕ) → u ≢ i + 1 → (slice_index (set ls' (i + 1) to) u ≡ slice_index ls' u) × (potential_at 𝓖 (set ps' i x) u ≡ potential_at 𝓖 ps' u)
        = λ u ne. (get_or-set_other ls' (i + 1) u to 0 ne, set_elsewhere 𝓖 ps' i x u ne) in
        record {
          below = record {
            moved = below_more _ (i + 1)
                (λ u l e. let p = apart u (omega arith) in let q = so-far.below.moved u l e in (p.0 ∙ q.0, p.1 ∙ q.1))
                (λ e. (get_or-set_same ls' (i + 1) to 0 lls, set_here 𝓖 ps' i x lps ∙ raised ∙ ap (λ y. 𝓖.sum y shift) (sym (node_potential 𝓖 ps' i) ∙ here.1)));
            kept = below_more _ (i + 1)
                (λ u l ne. let p = apart u (omega arith) in let q = so-far.below.kept u l ne in (p.0 ∙ q.0, p.1 ∙ q.1))
                (λ ne. absurd (ne (sym here.0 ∙ this)));
          };
          above = λ u l. let p = apart u (omega arith) in let q = so-far.above u (omega arith) in (p.0 ∙ q.0, p.1 ∙ q.1);
        }
