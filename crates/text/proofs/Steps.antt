-- What each byte of a line leaves to follow.
use Rattle.std.proofs.Common.{◌≡◌, ℕ, suc, ◌≤◌, Bool, true, false, List, [], ◌∷◌, ◌++◌, length, sym, refl, ap, ◌∙◌, subst, inl, inr, ⊎_elim, arith}
use Rattle.text.specs.declared.kinds.Kind.{Kind}
use Rattle.text.specs.declared.kinds.Kind.TheVariants.{Number, Coefficient}
use Rattle.text.specs.Grammar.{Bytes, Digit, Digits, Plain, Text, spaced}
use Rattle.text.specs.Scan.{Slot, Fits, marked, Next, Fillable, no_kinds}

-- up to d digits, and then ts
abbrev pub After : ℕ → Bool → List Slot → Bytes → Type 0
After d e ts r = (ds : Bytes) × (fs : List Bytes) × (r ≡ ds ++ spaced fs) × Digits ds × (length ds ≤ d) × Fits e ts fs

pub head_same : {a b : ℕ} {x y : Bytes} → ◌≡◌ {A = Bytes} (a ∷ x) (b ∷ y) → a ≡ b
head_same p = cc

pub tail_same : {a b : ℕ} {x y : Bytes} → ◌≡◌ {A = Bytes} (a ∷ x) (b ∷ y) → x ≡ y
tail_same p = cc

pub not_nil : {b : ℕ} {x : Bytes} → ◌≡◌ {A = Bytes} (b ∷ x) [] → ⊥
not_nil p = let z : ◌≡◌ {A = ℕ} 0 1 = cc in omega arith

digit_moved : {a b : ℕ} → a ≡ b → Digit a → Digit b
digit_moved p h = subst Digit p h

-- a digit, while one more may come
pub after_digit_in : (d : ℕ) (e : Bool) (ts : List Slot) (b : ℕ) (r : Bytes) → Digit b → After (suc d) e ts (b ∷ r) → After d e ts r
after_digit_in d e ts b r dg a = go a.0 a.1 a.2 a.3 a.4 a.5
  where
    go : (ds : Bytes) (fs : List Bytes) → (b ∷ r) ≡ ds ++ spaced fs → Digits ds → length ds ≤ suc d → Fits e ts fs → After d e ts r
    go [] [] p h l f = absurd (not_nil p)
    go [] (x ∷ fs) p h l f = let q = head_same p in absurd (omega arith)
    go (x ∷ ds) fs p h l f = (ds, fs, tail_same p, h.1, omega arith, f)

pub after_digit_out : (d : ℕ) (e : Bool) (ts : List Slot) (b : ℕ) (r : Bytes) → Digit b → After d e ts r → After (suc d) e ts (b ∷ r)
after_digit_out d e ts b r dg a = (b ∷ a.0, a.1, ap (λ (x : Bytes). b ∷ x) a.2, (dg, a.3), let l = a.4 in omega arith, a.5)

pub after_blank_in : (d : ℕ) (e : Bool) (ts : List Slot) (r : Bytes) → After d e ts (32 ∷ r) → Next ts r
after_blank_in d e ts r a = go ts a.0 a.1 a.2 a.3 a.5
  where
    go : (us : List Slot) (ds : Bytes) (fs : List Bytes) → (32 ∷ r) ≡ ds ++ spaced fs → Digits ds → Fits e us fs → Next us r
    go us [] [] p h f = absurd (not_nil p)
    go [] [] (x ∷ fs) p h f = f
    go (t ∷ us) [] (x ∷ fs) p h f = (x, fs, tail_same p, f.0, f.1)
    go us (x ∷ ds) fs p h f = let q = head_same p in let g = h.0 in absurd (omega arith)

pub after_blank_out : (d : ℕ) (e : Bool) (ts : List Slot) (r : Bytes) → Next ts r → After d e ts (32 ∷ r)
after_blank_out d e [] r n = absurd n
after_blank_out d e (t ∷ ts) r n = ([], n.0 ∷ n.1, ap (λ (x : Bytes). 32 ∷ x) n.2, tt, omega arith, (n.3, n.4))

pub after_other : (d : ℕ) (e : Bool) (ts : List Slot) (b : ℕ) (r : Bytes) → (b ≡ 32 → ⊥) → (Digit b → d ≡ 0) → After d e ts (b ∷ r) → ⊥
after_other d e ts b r no_blank full a = go a.0 a.1 a.2 a.3 a.4
  where
    go : (ds : Bytes) (fs : List Bytes) → (b ∷ r) ≡ ds ++ spaced fs → Digits ds → length ds ≤ d → ⊥
    go [] [] p h l = not_nil p
    go [] (x ∷ fs) p h l = no_blank (head_same p)
    go (x ∷ ds) fs p h l = let z = full (digit_moved (sym (head_same p)) h.0) in omega arith

pub after_end_in : (d : ℕ) (e : Bool) (ts : List Slot) → After d e ts [] → e ≡ true
after_end_in d e ts a = go ts a.0 a.1 a.2 a.5
  where
    go : (us : List Slot) (ds : Bytes) (fs : List Bytes) → [] ≡ ds ++ spaced fs → Fits e us fs → e ≡ true
    go us [] [] p f = f
    go us [] (x ∷ fs) p f = absurd (not_nil (sym p))
    go us (x ∷ ds) fs p f = absurd (not_nil (sym p))

pub after_end_out : (d : ℕ) (e : Bool) (ts : List Slot) → e ≡ true → After d e ts []
after_end_out d e ts h = ([], [], refl, tt, omega arith, h)

-- after a blank: the field's first byte
pub head_minus_in : (e : Bool) (ts : List Slot) (r : Bytes) → Next ((Coefficient, e) ∷ ts) (45 ∷ r) → Next ((Number, e) ∷ ts) r
head_minus_in e ts r n = ⊎_elim (λ h. absurd (go n.0 n.2 h)) (λ h. (h.0, n.1, tail_same (n.2 ∙ ap (λ (x : Bytes). x ++ spaced n.1) h.1), h.2, n.4)) n.3
  where
    go : (f : Bytes) → (45 ∷ r) ≡ f ++ spaced n.1 → Plain f → ⊥
    go [] p h = let l = h.some in omega arith
    go (x ∷ f) p h = let q = head_same p in let g = h.digits.0 in omega arith

pub head_minus_out : (e : Bool) (ts : List Slot) (r : Bytes) → Next ((Number, e) ∷ ts) r → Next ((Coefficient, e) ∷ ts) (45 ∷ r)
head_minus_out e ts r n = (45 ∷ n.0, n.1, ap (λ (x : Bytes). 45 ∷ x) n.2, inr (n.0, refl, n.3), n.4)

-- a field that a digit begins has no sign
unsigned : (k : Kind) (b : ℕ) (f : Bytes) → Digit b → Text k (b ∷ f) → Plain (b ∷ f)
unsigned Number b f dg h = h
unsigned Coefficient b f dg h = ⊎_elim (λ p. p) (λ s. let q = head_same s.1 in absurd (omega arith)) h

signed_too : (k : Kind) (f : Bytes) → Plain f → Text k f
signed_too Number f h = h
signed_too Coefficient f h = inl h

pub never_empty : (k : Kind) → Text k [] → ⊥
never_empty Number h = let l = h.some in omega arith
never_empty Coefficient h = ⊎_elim (λ p. let l = p.some in omega arith) (λ s. not_nil (sym s.1)) h

pub head_digit_in : (k : Kind) (e : Bool) (ts : List Slot) (b : ℕ) (r : Bytes) → Digit b → Next ((k, e) ∷ ts) (b ∷ r) → After 6 e ts r
head_digit_in k e ts b r dg n = go n.0 n.2 n.3
  where
    go : (f : Bytes) → (b ∷ r) ≡ f ++ spaced n.1 → Text k f → After 6 e ts r
    go [] p h = absurd (never_empty k h)
    go (x ∷ f) p h =
        let plain = unsigned k x f (digit_moved (head_same p) dg) h in
        let l = plain.short in
        (f, n.1, tail_same p, plain.digits.1, omega arith, n.4)

pub head_digit_out : (k : Kind) (e : Bool) (ts : List Slot) (b : ℕ) (r : Bytes) → Digit b → After 6 e ts r → Next ((k, e) ∷ ts) (b ∷ r)
head_digit_out k e ts b r dg a =
    let l = a.4 in
    (b ∷ a.0, a.1, ap (λ (x : Bytes). b ∷ x) a.2, signed_too k (b ∷ a.0) (record { digits = (dg, a.3); some = omega arith; short = omega arith }), a.5)

pub head_other : (k : Kind) (e : Bool) (ts : List Slot) (b : ℕ) (r : Bytes) → (Digit b → ⊥) → (b ≡ 45 → k ≡ Number) → Next ((k, e) ∷ ts) (b ∷ r) → ⊥
head_other k e ts b r no_digit no_sign n = go k no_sign n.0 n.2 n.3
  where
    plain_not : (x : ℕ) (f : Bytes) → b ≡ x → Plain (x ∷ f) → ⊥
    plain_not x f p h = no_digit (digit_moved (sym p) h.digits.0)

    go : (j : Kind) → (b ≡ 45 → j ≡ Number) → (f : Bytes) → (b ∷ r) ≡ f ++ spaced n.1 → Text j f → ⊥
    go j sign [] p h = never_empty j h
    go Number sign (x ∷ f) p h = plain_not x f (head_same p) h
    go Coefficient sign (x ∷ f) p h =
        ⊎_elim (plain_not x f (head_same p)) (λ s. let q : Coefficient ≡ Number = sign (head_same p ∙ head_same s.1) in let z : ◌≡◌ {A = ℕ} 0 1 = cc in omega arith) h

pub head_end : (k : Kind) (e : Bool) (ts : List Slot) → Next ((k, e) ∷ ts) [] → ⊥
head_end k e ts n = go n.0 n.2 n.3
  where
    go : (f : Bytes) → [] ≡ f ++ spaced n.1 → Text k f → ⊥
    go [] p h = never_empty k h
    go (x ∷ f) p h = not_nil (sym p)

-- one digit fills any slot
pub fill_more : (k : Kind) (e : Bool) (ts : List Slot) → Fillable e ts → Fillable false ((k, e) ∷ ts)
fill_more k e ts fill = ((48 ∷ []) ∷ fill.0, (signed_too k (48 ∷ []) (record { digits = ((omega arith, omega arith), tt); some = omega arith; short = omega arith }), fill.1))

pub fill_marked : (ks : List Kind) (ts : List Slot) → Fillable (no_kinds ks) (marked ks ts)
fill_marked [] ts = ([], refl)
fill_marked (k ∷ ks) ts = fill_more k (no_kinds ks) (marked ks ts) (fill_marked ks ts)
