-- Where a scan of a line stands, for the contracts of the functions that scan.
use Rattle.std.specs.Prelude.{◌≡◌, ℕ, zero, suc, ◌+◌, ◌<◌, ◌≤◌, Bool, true, false, ◌⊎◌, List, [], ◌∷◌, ◌++◌, length, take, Result, MatchResult, MatchBool, ◌≢◌, slice_index}
use Rattle.text.specs.declared.kinds.Kind.{Kind}
use Rattle.text.specs.declared.kinds.Kind.TheVariants.{Number, Coefficient}
use Rattle.text.specs.declared.line.Fault.{Fault}
use Rattle.text.specs.Grammar.{Bytes, Digit, Text, spaced}
use Rattle.text.specs.Faults.{Begins, FaultAt}
use Rattle.text.specs.Limits.{most_digits}

-- a field's kind, and whether the line may end after it
abbrev pub Slot : Type 0
Slot = Kind × Bool

-- Each field of fs has its slot's kind, and the line may end after the last. `e` says whether it may end before the
-- first.
abbrev pub Fits : Bool → List Slot → List Bytes → Type 0
Fits e ts [] = e ≡ true
Fits e [] (f ∷ fs) = ⊥
Fits e (t ∷ ts) (f ∷ fs) = Text t.0 f × Fits t.1 ts fs

abbrev pub no_kinds : List Kind → Bool
no_kinds [] = true
no_kinds (k ∷ ks) = false

-- a group of fields, after whose last the line may end, and then ts
abbrev pub marked : List Kind → List Slot → List Slot
marked [] ts = ts
marked (k ∷ ks) ts = (k, no_kinds ks) ∷ marked ks ts

-- at most n groups
abbrev pub layout : List Kind → ℕ → List Slot
layout ks zero = []
layout ks (suc n) = marked ks (layout ks n)

-- bs is the fields that ts asks for
abbrev pub FieldsFor : List Slot → Bytes → Type 0
FieldsFor ts bs = (fs : List Bytes) × (bs ≡ spaced fs) × Fits false ts fs

-- any first byte, and then the fields that ts asks for
abbrev pub Laid : List Slot → Bytes → Type 0
Laid ts [] = ⊥
Laid ts (c ∷ bs) = FieldsFor ts bs

-- what may follow a blank
abbrev pub Next : List Slot → Bytes → Type 0
Next [] r = ⊥
Next (t ∷ ts) r = (f : Bytes) × (fs : List Bytes) × (r ≡ f ++ spaced fs) × Text t.0 f × Fits t.1 ts fs

-- some fields fit
abbrev pub Fillable : Bool → List Slot → Type 0
Fillable e ts = (fs : List Bytes) × Fits e ts fs

-- no line that all asks for goes on with the byte of this line at the place `at`, and r
abbrev pub OtherByte : List Slot → Bytes → ℕ → Bytes → Type 0
OtherByte all line at r = Laid all (take at line ++ slice_index line at ∷ r) → ⊥

-- the first `at` bytes of the line end between two fields of a line that all asks for: ts may follow,
-- and e says whether the line may end there
pub record Gap (all : List Slot) (line : Bytes) (at : ℕ) (e : Bool) (ts : List Slot) : Type 0 where
  pub begins : Begins (Laid all) (take at line)
  pub blank_in : (r : Bytes) → Laid all (take at line ++ 32 ∷ r) → Next ts r
  pub blank_out : (r : Bytes) → Next ts r → Laid all (take at line ++ 32 ∷ r)
  pub other : (r : Bytes) → at < length line → (slice_index line at ≢ 32) → OtherByte all line at r
  pub end_in : at ≡ length line → Laid all line → e ≡ true
  pub end_out : at ≡ length line → e ≡ true → Laid all line

-- what a scan from one gap to the next answers, and where it ends
abbrev pub Skips : Bytes → ℕ → Bool → List Slot → Bool → List Slot → Result (Unit {0}) Fault → ℕ → Type 0
Skips line at e ts e' ts' r end =
    (all : List Slot) → Gap all line at e ts
    → MatchResult r (λ _. Gap all line end e' ts') (λ f. FaultAt (Laid all) line f.column)

-- a field of this kind is skipped, whatever the line asks for behind it
abbrev pub SkipsField : Kind → Bytes → ℕ → Result (Unit {0}) Fault → ℕ → Type 0
SkipsField kind line at r end =
    (e : Bool) (ts : List Slot) → Fillable e ts → Skips line at false ((kind, e) ∷ ts) e ts r end

-- a group of fields of these kinds is skipped likewise
abbrev pub SkipsGroup : List Kind → Bytes → ℕ → Result (Unit {0}) Fault → ℕ → Type 0
SkipsGroup kinds line at r end = (ts : List Slot) → Skips line at (no_kinds kinds) (marked kinds ts) true ts r end

-- whether the byte stands there, and then the place after it
abbrev pub ByteTaken : Bytes → ℕ → ℕ → Bool → ℕ → Type 0
ByteTaken line at b r end =
    MatchBool r
    ((end ≡ at + 1) × (at < length line) × (slice_index line at ≡ b))
    ((end ≡ at) × (at < length line → slice_index line at ≢ b))

-- the place after a minus, where one may stand and does
abbrev pub SignEnd : Bytes → ℕ → Kind → ℕ → Type 0
SignEnd line at k r =
    ((r ≡ at) × (at < length line → slice_index line at ≡ 45 → k ≡ Number))
    ⊎ ((r ≡ at + 1) × (at < length line) × (slice_index line at ≡ 45) × (k ≡ Coefficient))

-- n digits stand there, and seven or no digit after them
pub record DigitRun (line : Bytes) (at n : ℕ) : Type 0 where
  pub within : at + n ≤ length line
  pub short : n ≤ most_digits
  pub all : (k : ℕ) → k < n → Digit (slice_index line (at + k))
  pub stops : n < most_digits → at + n < length line → Digit (slice_index line (at + n)) → ⊥
