-- What a layer of two parts answers, by the part that it asks.
use Rattle.std.proofs.Common.{◌≡◌, ℕ, zero, suc, ◌+◌, ◌-◌, ◌<◌, ◌≤◌, Bool, List, [], ◌∷◌, ◌++◌, map, length, drop, sym, refl, ap, ◌∙◌, arith}
use Rattle.std.specs.List.{slice_get}
use Rattle.std.specs.Option.{option_map}
use Rattle.std.proofs.lemmas.List.{length-map}
use Rattle.std.proofs.lemmas.Option.{slice_get-map}
use Rattle.assembly.specs.Meaning.{Meaning, Plan, domains_of, rows_of, laws_of, terms_of}
use Rattle.assembly.proofs.Nth.{nth_append_left, nth_append_right}
use Rattle.layers.specs.declared.halves.Halves.{Halves}
use Rattle.layers.specs.declared.renumbering.Renumbering.{Renumbering}
use Rattle.layers.specs.Joined.{joined_domains}
use Rattle.layers.specs.Renumbered.{moved_row, moved_term}
use Rattle.layers.specs.Two.{Halved, Joins}
use Rattle.layers.proofs.Halving.{nodes_before, rows_before, laws_before}
use Rattle.layers.proofs.Laws.{mapped_length, moved_terms}

nth_drop : {X : Type 0} (n : ℕ) (xs : List X) (i : ℕ) → slice_get (drop n xs) i ≡ slice_get xs (n + i)
nth_drop zero xs i = ap (slice_get xs) (omega arith)
nth_drop (suc n) [] i = refl
nth_drop (suc n) (x ∷ xs) i = nth_drop n xs i ∙ ap (slice_get (x ∷ xs)) {x = suc (n + i)} (omega arith)

-- Of two lists, one behind the other, each moved by a function of its own.
module _ {X Y : Type 0} (f g : X → Y) (xs ys : List X) (n : ℕ) (is : n ≡ length xs) (k : ℕ) where
  in_front : k < n → slice_get (map f xs ++ map g ys) k ≡ option_map f (slice_get xs k)
  in_front l = nth_append_left (map f xs) (map g ys) k (omega (arith, length-map xs f)) ∙ slice_get-map f xs k

  behind : n ≤ k → slice_get (map f xs ++ map g ys) k ≡ option_map g (slice_get ys (k - n))
  behind l =
      nth_append_right (map f xs) (map g ys) k (omega (arith, length-map xs f)) ∙ slice_get-map g ys _
      ∙ ap (λ i. option_map g (slice_get ys (k - i))) (length-map xs f ∙ sym is)

module _ {meet : Meaning → Meaning → Bool} {whole : Plan → Plan → Plan} {m n w : Meaning} {h : Halves} {p q : Renumbering} (is : Joins meet whole m n w h p q) (k : ℕ) where
  pub front_row : k < h.first.rows → option_map (moved_row p) (slice_get (rows_of m) k) ≡ slice_get (rows_of w) k
  front_row l =
      sym (ap (λ rows. slice_get rows k) is.rows_are
      ∙ in_front (moved_row p) (moved_row q) (rows_of m) (rows_of n) _ (rows_before is.halved) k l)

  pub back_row : h.first.rows ≤ k → option_map (moved_row q) (slice_get (rows_of n) (k - h.first.rows)) ≡ slice_get (rows_of w) k
  back_row l =
      sym (ap (λ rows. slice_get rows k) is.rows_are
      ∙ behind (moved_row p) (moved_row q) (rows_of m) (rows_of n) _ (rows_before is.halved) k l)

  front_law : k < h.first.laws → slice_get (laws_of w) k ≡ option_map (map (moved_term p)) (slice_get (laws_of m) k)
  front_law l =
      ap (λ laws. slice_get laws k) is.laws_are
      ∙ in_front (map (moved_term p)) (map (moved_term q)) (laws_of m) (laws_of n) _ (laws_before is.halved) k l

  back_law : h.first.laws ≤ k → slice_get (laws_of w) k ≡ option_map (map (moved_term q)) (slice_get (laws_of n) (k - h.first.laws))
  back_law l =
      ap (λ laws. slice_get laws k) is.laws_are
      ∙ behind (map (moved_term p)) (map (moved_term q)) (laws_of m) (laws_of n) _ (laws_before is.halved) k l

  pub front_len : k < h.first.laws → option_map length (slice_get (laws_of m) k) ≡ option_map length (slice_get (laws_of w) k)
  front_len l = sym (ap (option_map length) (front_law l) ∙ mapped_length (moved_term p) (slice_get (laws_of m) k))

  pub back_len : h.first.laws ≤ k → option_map length (slice_get (laws_of n) (k - h.first.laws)) ≡ option_map length (slice_get (laws_of w) k)
  back_len l = sym (ap (option_map length) (back_law l) ∙ mapped_length (moved_term q) (slice_get (laws_of n) (k - h.first.laws)))

  pub front_term : (t : ℕ) → k < h.first.laws → option_map (moved_term p) (slice_get (terms_of m k) t) ≡ slice_get (terms_of w k) t
  front_term t l = sym (moved_terms (moved_term p) (laws_of w) k (laws_of m) k t (front_law l))

  pub back_term : (t : ℕ) → h.first.laws ≤ k → option_map (moved_term q) (slice_get (terms_of n (k - h.first.laws)) t) ≡ slice_get (terms_of w k) t
  back_term t l = sym (moved_terms (moved_term q) (laws_of w) k (laws_of n) (k - h.first.laws) t (back_law l))

module _ {meet : Meaning → Meaning → Bool} {whole : Plan → Plan → Plan} {m n : Meaning} {h : Halves} (is : Halved meet whole m n h) (i : ℕ) where
  pub front_node : i < 2 + h.first.inner → slice_get (domains_of m) i ≡ slice_get (joined_domains m n) i
  front_node l = sym (nth_append_left (domains_of m) (drop 2 (domains_of n)) i (omega (arith, nodes_before is)))

  pub back_node : 2 + h.first.inner ≤ i → slice_get (domains_of n) (i - h.first.inner) ≡ slice_get (joined_domains m n) i
  back_node l =
      let at : i - h.first.inner ≡ 2 + (i - length (domains_of m)) = omega (arith, nodes_before is) in
      sym (nth_append_right (domains_of m) (drop 2 (domains_of n)) i (omega (arith, nodes_before is))
      ∙ nth_drop 2 (domains_of n) (i - length (domains_of m))
      ∙ ap (slice_get (domains_of n)) (sym at))
