-- A line of readings is split at its first blank.
use Rattle.std.proofs.Common.{◌≡◌, ℕ, ℤ, zero, suc, ◌+◌, ◌-◌, ◌<◌, ◌≤◌, [], ◌∷◌, ◌++◌, length, take, drop, get_or, refl, sym, ap, ◌∙◌, add-one, subst, ⊎_elim, arith}
use Rattle.std.proofs.lemmas.List.{take_rest, take-append-drop, drop_more}
use Rattle.text.specs.Grammar.{Bytes}
use Rattle.readings_text.specs.Numbers.{Writes, SomeDigits}
use Rattle.readings_text.specs.Lines.{WritesPair}

abbrev NoBlank : Bytes → ℕ → Type 0
NoBlank f n = (k : ℕ) → k < n → get_or f k 0 ≡ 32 → ⊥

digits_no_blank : (f : Bytes) → SomeDigits f → NoBlank f (length f)
digits_no_blank f n k l e = let h = n.digits k 0 l in omega arith

behind_minus : (g : Bytes) → SomeDigits g → NoBlank (45 ∷ g) (length (45 ∷ g))
behind_minus g n zero l e = omega arith
behind_minus g n (suc k) l e = digits_no_blank g n k (omega arith) e

no_blank : (f : Bytes) (z : ℤ) → Writes f z → NoBlank f (length f)
no_blank f z h = ⊎_elim (λ p. digits_no_blank f p.0) (λ q. subst (λ (x : Bytes). NoBlank x (length x)) (sym q.1) (behind_minus q.0 q.2.0)) h

-- at is the place of the first blank, or the end
pub record First (line : Bytes) (at : ℕ) : Type 0 where
  pub within : at ≤ length line
  pub before : NoBlank line at
  pub found : at < length line → get_or line at 0 ≡ 32

-- the line's parts at that place
pub record Parts (line f g : Bytes) (at : ℕ) : Type 0 where
  pub inside : at < length line
  pub front : f ≡ take at line
  pub back : g ≡ drop (suc at) line

parts : (f g : Bytes) (at : ℕ) → NoBlank f (length f) → First (f ++ 32 ∷ g) at → Parts (f ++ 32 ∷ g) f g at
parts [] g zero w p = record { inside = omega arith; front = refl; back = refl }
parts [] g (suc at) w p = absurd (p.before 0 (omega arith) refl)
parts (b ∷ f) g zero w p = absurd (w 0 (omega arith) (p.found (omega arith)))
parts (b ∷ f) g (suc at) w p =
    let within = p.within in
    let on = parts f g at (λ k l. w (suc k) (omega arith)) (record { within = omega arith; before = λ k l. p.before (suc k) (omega arith); found = λ l. p.found (omega arith) }) in
    let inside = on.inside in
    record { inside = omega arith; front = ap (λ (x : Bytes). b ∷ x) on.front; back = on.back }

-- what the line writes stands before and behind its first blank
pub record Halves (line : Bytes) (at : ℕ) (x y : ℤ) : Type 0 where
  pub inside : at < length line
  pub value : Writes (take at line) x
  pub rate : Writes (take (length line - (at + 1)) (drop (at + 1) line)) y

pub halves : (line : Bytes) (at : ℕ) (x y : ℤ) → First line at → WritesPair line x y → Halves line at x y
halves line at x y p h =
    let q = parts h.0 h.1 at (no_blank h.0 x h.3) (subst (λ (l : Bytes). First l at) h.2 p) in
    let front : h.0 ≡ take at line = q.front ∙ ap (take at) (sym h.2) in
    let back : h.1 ≡ take (length line - (at + 1)) (drop (at + 1) line) = q.back ∙ ap (λ i. drop i (h.0 ++ 32 ∷ h.1)) (sym (add-one at)) ∙ ap (drop (at + 1)) (sym h.2) ∙ sym (take_rest line (at + 1)) in
    let long = ap length h.2 in
    let inside = q.inside in
    record { inside = omega arith; value = subst (λ (l : Bytes). Writes l x) front h.3; rate = subst (λ (l : Bytes). Writes l y) back h.4 }

-- the line is its halves, with the blank between them
pub joined : (line : Bytes) (at : ℕ) → First line at → at < length line → line ≡ take at line ++ 32 ∷ take (length line - (at + 1)) (drop (at + 1) line)
joined line at p inside =
    sym (take-append-drop at line)
    ∙ ap (λ (x : Bytes). take at line ++ x) (drop_more line at 0 inside ∙ ap (λ (b : ℕ). b ∷ drop (at + 1) line) (p.found inside) ∙ ap (λ (x : Bytes). 32 ∷ x) (sym (take_rest line (at + 1))))
