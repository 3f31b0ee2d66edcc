-- The first of the fields that stand in a row.
use Rattle.std.proofs.Common.{◌≡◌, ℕ, zero, suc, ◌+◌, ◌-◌, ◌<◌, ◌≤◌, List, [], ◌∷◌, ◌++◌, length, get_or, take, drop, sym, ap, ◌∙◌, subst, ⊎_elim, add-zero, arith, length-append, length-drop}
use Rattle.std.specs.List.{between}
use Rattle.std.proofs.lemmas.List.{get_or_append_left, get_or-append-add, take_at, drop_at, drop-drop, take_rest}
use Rattle.std.proofs.lemmas.Bool.{cases_lt}
use Rattle.text.specs.declared.kinds.Kind.{Kind}
use Rattle.text.specs.declared.kinds.Kind.TheVariants.{Number, Coefficient}
use Rattle.text.specs.Grammar.{Bytes, Digits, Text, spaced}
use Rattle.text.specs.Reading.{Unbroken}

-- n is the place of the first blank of bs, or its end
pub record FirstBlank (bs : Bytes) (n : ℕ) : Type 0 where
  pub within : n ≤ length bs
  pub before : (k : ℕ) → k < n → get_or bs k 0 ≡ 32 → ⊥
  pub found : n < length bs → get_or bs n 0 ≡ 32

pub word_end : (g : Bytes) (gs : List Bytes) (n : ℕ) → Unbroken g → FirstBlank (g ++ spaced gs) n → n ≡ length g
word_end g gs n whole stop =
    let long = length-append g (spaced gs) in
    ⊎_elim
    (λ short. absurd (whole n short (sym (get_or_append_left g (spaced gs) 0 n short) ∙ stop.found (omega arith))))
    (λ past. ⊎_elim (λ beyond. absurd (after gs stop beyond)) (λ le. omega arith) (cases_lt (length g) n))
    (cases_lt n (length g))
  where
    after : (hs : List Bytes) → FirstBlank (g ++ spaced hs) n → length g < n → ⊥
    after [] s beyond = let l = length-append g [] in let w = s.within in omega arith
    after (h ∷ hs) s beyond =
        s.before (length g) beyond (ap (λ i. get_or (g ++ spaced (h ∷ hs)) i 0) (sym (add-zero (length g))) ∙ get_or-append-add g (spaced (h ∷ hs)) 0 0)

pub first_word : (line : Bytes) (a n : ℕ) (g : Bytes) (gs : List Bytes) → FirstBlank (between (a + 1) (length line) line) n → drop a line ≡ spaced (g ∷ gs) → Unbroken g → (between (a + 1) (a + 1 + n) line ≡ g) × (drop (a + 1 + n) line ≡ spaced gs)
first_word line a n g gs stop here whole =
    let rest : drop (a + 1) line ≡ g ++ spaced gs = sym (drop-drop 1 a line) ∙ ap (drop 1) here in
    let size : n ≡ length g = word_end g gs n whole (subst (λ bs. FirstBlank bs n) (take_rest line (a + 1) ∙ rest) stop) in
    let span : a + 1 + n - (a + 1) ≡ n = omega arith in (
      ap (λ i. take i (drop (a + 1) line)) span ∙ ap (take n) rest ∙ take_at g (spaced gs) n (sym size),
      sym (drop-drop n (a + 1) line) ∙ ap (drop n) rest ∙ drop_at g (spaced gs) n (sym size),
    )

pub some_word : (line : Bytes) (a : ℕ) → a < length line → drop a line ≡ [] → ⊥
some_word line a h empty = let e = ap length empty in let l = length-drop a line in omega arith

pub word_within : (line : Bytes) (a n : ℕ) → a < length line → n ≤ length (between (a + 1) (length line) line) → a + 1 + n ≤ length line
word_within line a n h l =
    let long = ap length (take_rest line (a + 1)) ∙ length-drop (a + 1) line in
    omega arith

digits_unbroken : (f : Bytes) → Digits f → Unbroken f
digits_unbroken [] h k l is = omega arith
digits_unbroken (b ∷ f) h zero l is = let d = h.0 in let e : b ≡ 32 = is in omega arith
digits_unbroken (b ∷ f) h (suc k) l is = digits_unbroken f h.1 k (omega arith) is

-- no field has a blank
pub text_unbroken : (k : Kind) (f : Bytes) → Text k f → Unbroken f
text_unbroken Number f h = digits_unbroken f h.digits
text_unbroken Coefficient f h = ⊎_elim (λ p. digits_unbroken f p.digits) (λ s. subst Unbroken (sym s.1) (minus s.0 s.2.digits)) h
  where
    minus : (g : Bytes) → Digits g → Unbroken (45 ∷ g)
    minus g d zero l is = let e : ◌≡◌ {A = ℕ} 45 32 = is in omega arith
    minus g d (suc k) l is = digits_unbroken g d k (omega arith) is
