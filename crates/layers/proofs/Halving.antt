-- A layer of two parts, from how its plan is laid out.
use Rattle.std.proofs.Common.{◌≡◌, ℕ, ◌+◌, Bool, true, false, cond, ◌&&◌, ◌++◌, length, Some, None, Option, sym, refl, ap, ◌∙◌, subst, arith}
use Rattle.std.proofs.lemmas.List.{length-append, length-map}
use Rattle.std.proofs.lemmas.Bool.{and_parts}
use Rattle.assembly.specs.declared.plans.Size.{Size}
use Rattle.assembly.specs.Meaning.{Meaning, void, plan, Plan, Bounded, Proper, size_in, size_of, domains_of, rows_of, laws_of, is_small}
use Rattle.layers.specs.declared.halves.Halves.{Halves}
use Rattle.layers.specs.declared.renumbering.Renumbering.{Renumbering}
use Rattle.layers.specs.Renumbered.{moved_rows, moved_laws}
use Rattle.layers.specs.Joined.{joined_rows, joined_laws}
use Rattle.layers.specs.Two.{layer_of_two, both_sizes, SmallHalves, Halved, Joins, ToldHalves}
use Rattle.layers.proofs.Laws.{kept_lengths, joined_lengths}
use Rattle.layers.proofs.Small.{size_with, bounded}

-- The plan has two ends, the things of its parts and the joints.
pub record PartsLayout (joints : ℕ) (whole : Plan → Plan → Plan) (front back : Size → Size → Renumbering) : Type 0 where
  pub ends : (a b : Plan) → Bounded a → Bounded b → length (whole a b).ends ≡ 2
  pub inner : (a b : Plan) → Bounded a → Bounded b → length (whole a b).inner ≡ length a.inner + length b.inner + joints
  pub variables : (a b : Plan) → (whole a b).variables ≡ a.variables + b.variables
  pub rows : (a b : Plan) → (whole a b).rows ≡ moved_rows (front (size_in a) (size_in b)) a ++ moved_rows (back (size_in a) (size_in b)) b
  pub laws : (a b : Plan) → (whole a b).laws ≡ moved_laws (front (size_in a) (size_in b)) a ++ moved_laws (back (size_in a) (size_in b)) b

module _ {joints : ℕ} {whole : Plan → Plan → Plan} {front back : Size → Size → Renumbering} (layout : PartsLayout joints whole front back) where
  -- What the code counts is what the layer has.
  size_in_layout : (a b : Plan) → Bounded a → Bounded b → size_in (whole a b) ≡ both_sizes joints (size_in a) (size_in b)
  size_in_layout a b p q =
      let rows : length (whole a b).rows ≡ length a.rows + length b.rows = ap length (layout.rows a b) ∙ simp (length-append, length-map) in
      let laws : length (whole a b).laws ≡ length a.laws + length b.laws = ap length (layout.laws a b) ∙ simp (length-append, length-map) in
      (λ i. size_with (layout.ends a b p q i) (layout.inner a b p q i) (layout.variables a b i) (rows i) (laws i))

  -- Where the ends meet, the code's count of the whole decides.
  judged : (meet : Meaning → Meaning → Bool) (a b : Plan) → Bounded a → Bounded b → meet (plan a) (plan b) ≡ true → (r : Option Halves) → SmallHalves joints (size_in a) (size_in b) r → ToldHalves meet whole (plan a) (plan b) r
  judged meet a b p q e None large =
      let small : is_small (size_in (whole a b)) ≡ false = ap is_small (size_in_layout a b p q) ∙ large in
      rw (e, small) refl
  judged meet a b p q e (Some h) is =
      let counted = size_in_layout a b p q in
      let small : is_small (size_in (whole a b)) ≡ true = ap is_small (counted ∙ sym is.whole_is) ∙ is.small in
      record {
        first_has = ap Some is.first_is;
        second_has = ap Some is.second_is;
        whole_has = rw (e, small) (ap Some (is.whole_is ∙ sym counted));
        first_bounds = p;
        second_bounds = q;
      }

  pub halved : (meet : Meaning → Meaning → Bool) (m n : Meaning) {x y : Size} (r : Option Halves) → Some x ≡ size_of m → Some y ≡ size_of n → Proper m → Proper n → meet m n ≡ true → SmallHalves joints x y r → ToldHalves meet whole m n r
  halved meet void n r ex ey p q e is = absurd (cc)
  halved meet (plan a) void r ex ey p q e is = absurd (cc)
  halved meet (plan a) (plan b) {x} {y} r ex ey p q e is =
      let x_is : x ≡ size_in a = cc in
      let y_is : y ≡ size_in b = cc in
      judged meet a b p q e r (subst (λ u. SmallHalves joints (size_in a) u r) y_is (subst (λ u. SmallHalves joints u y r) x_is is))

-- A plan that is there on a test has its size only if the test holds.
pub size_where : (t : Bool) (p : Plan) {x : Size} → Some x ≡ size_of (cond t (plan p) void) → (t ≡ true) × (x ≡ size_in p)
size_where true p e = (refl, cc)
size_where false p e = absurd (cc)

module _ (meet : Meaning → Meaning → Bool) (whole : Plan → Plan → Plan) (m n : Meaning) where
  -- What a layer knows, once it has the sizes or none.
  pub known : {r : Option Halves} (h : Halves) → ToldHalves meet whole m n r → r ≡ Some h → Halved meet whole m n h
  known h t e = subst (ToldHalves meet whole m n) e t

  pub known_void : {r : Option Halves} → ToldHalves meet whole m n r → r ≡ None → layer_of_two meet whole m n ≡ void
  known_void t e = subst (ToldHalves meet whole m n) e t

-- What holds of two plans and their whole holds of the parts and the layer.
pub by_halves : (meet : Meaning → Meaning → Bool) (whole : Plan → Plan → Plan) (P : Meaning → Meaning → Meaning → Size → Size → Size → Type 0) → ((a b : Plan) → Bounded a → Bounded b → is_small (size_in (whole a b)) ≡ true → P (plan a) (plan b) (plan (whole a b)) (size_in a) (size_in b) (size_in (whole a b))) → {m n : Meaning} {h : Halves} → Halved meet whole m n h → P m n (layer_of_two meet whole m n) h.first h.second h.whole
by_halves meet whole P f {m = void} t = absurd (let e = t.first_has in cc)
by_halves meet whole P f {m = plan a} {n = void} t = absurd (let e = t.second_has in cc)
by_halves meet whole P f {m = plan a} {n = plan b} {h} t =
    let first : h.first ≡ size_in a = let e = t.first_has in cc in
    let second : h.second ≡ size_in b = let e = t.second_has in cc in
    let is = size_where (meet (plan a) (plan b) && is_small (size_in (whole a b))) (whole a b) t.whole_has in
    rw (is.0, first, second, is.1) (f a b t.first_bounds t.second_bounds (and_parts _ _ is.0).1)

module _ {joints : ℕ} {meet : Meaning → Meaning → Bool} {whole : Plan → Plan → Plan} {front back : Size → Size → Renumbering} (layout : PartsLayout joints whole front back) {m n : Meaning} {h : Halves} (is : Halved meet whole m n h) where
  -- The layer keeps to the bounds of a plan.
  pub layer_proper : Proper (layer_of_two meet whole m n)
  layer_proper =
      by_halves meet whole (λ m n w x y z. Proper w)
      (λ a b p q s.
      let one = front (size_in a) (size_in b) in
      let other = back (size_in a) (size_in b) in
      bounded (whole a b) (layout.ends a b p q) s
      (rw (layout.laws a b) (joined_lengths (moved_laws one a) (moved_laws other b) (kept_lengths one a p) (kept_lengths other b q)))) is

  -- Its rows and laws are those of its parts, in their places.
  pub joined : {p q : Renumbering} → p ≡ front h.first h.second → q ≡ back h.first h.second → Joins meet whole m n (layer_of_two meet whole m n) h p q
  joined {p} {q} ep eq =
      let rows = by_halves meet whole (λ m n w x y z. rows_of w ≡ joined_rows (front x y) (back x y) m n) (λ a b p q s. layout.rows a b) is in
      let laws = by_halves meet whole (λ m n w x y z. laws_of w ≡ joined_laws (front x y) (back x y) m n) (λ a b p q s. layout.laws a b) is in
      record {
        whole_is = refl;
        halved = is;
        rows_are = rw (ep, eq) rows;
        laws_are = rw (ep, eq) laws;
      }

module _ {meet : Meaning → Meaning → Bool} {whole : Plan → Plan → Plan} {m n : Meaning} {h : Halves} (is : Halved meet whole m n h) where
  -- How much comes before the second part's things.
  pub nodes_before : 2 + h.first.inner ≡ length (domains_of m)
  nodes_before =
      by_halves meet whole (λ m n w x y z. 2 + x.inner ≡ length (domains_of m)) (λ a b p q s. omega (arith, length-append a.ends a.inner, p.two_ends)) is

  pub rows_before : h.first.rows ≡ length (rows_of m)
  rows_before = by_halves meet whole (λ m n w x y z. x.rows ≡ length (rows_of m)) (λ a b p q s. refl) is

  pub laws_before : h.first.laws ≡ length (laws_of m)
  laws_before = by_halves meet whole (λ m n w x y z. x.laws ≡ length (laws_of m)) (λ a b p q s. refl) is
