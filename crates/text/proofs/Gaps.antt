-- A scan from gap to gap, and the fault where it stops.
use Rattle.std.proofs.Common.{◌≡◌, ℕ, zero, suc, ◌+◌, ◌-◌, ◌<◌, ◌≤◌, Bool, true, false, List, [], ◌∷◌, ◌++◌, length, get_or, take, drop, sym, refl, ap, ◌∙◌, subst, ⊎_elim, append_assoc, append-nil, arith, length-drop, take-append-drop}
use Rattle.std.specs.List.{between}
use Rattle.std.proofs.lemmas.List.{take_all, take_more, drop_more, drop_all, take_rest, get_or-drop}
use Rattle.std.proofs.lemmas.Bool.{cases_lt, cases_eq}
use Rattle.text.specs.declared.kinds.Kind.{Kind}
use Rattle.text.specs.declared.kinds.Kind.TheVariants.{Number}
use Rattle.text.specs.Grammar.{Bytes, Digit, spaced}
use Rattle.text.specs.Faults.{Begins, FaultAt}
use Rattle.text.specs.Scan.{Slot, Fits, marked, layout, Laid, Next, Fillable, Gap, SignEnd, DigitRun, no_kinds, FieldsFor}
use Rattle.text.proofs.Steps.{
  After,
  after_digit_in,
  after_digit_out,
  after_blank_in,
  after_blank_out,
  after_other,
  after_end_in,
  after_end_out,
  head_minus_in,
  head_minus_out,
  head_digit_in,
  head_digit_out,
  head_other,
  head_end,
  fill_more,
  fill_marked,
}

-- a line of `all` that begins with the first i bytes goes on with M, and with nothing else
pub record Left (all : List Slot) (line : Bytes) (i : ℕ) (M : Bytes → Type 0) : Type 0 where
  pub to : (r : Bytes) → Laid all (take i line ++ r) → M r
  pub from : (r : Bytes) → M r → Laid all (take i line ++ r)

one_on : (line : Bytes) (i : ℕ) (r : Bytes) → i < length line → take (i + 1) line ++ r ≡ take i line ++ get_or line i 0 ∷ r
one_on line i r h = ap (λ (x : Bytes). x ++ r) (take_more line i 0 h) ∙ append_assoc (take i line) (get_or line i 0 ∷ []) r

whole_from : (line : Bytes) (i : ℕ) → i < length line → line ≡ take i line ++ get_or line i 0 ∷ drop (i + 1) line
whole_from line i h = sym (take-append-drop i line) ∙ ap (λ (x : Bytes). take i line ++ x) (drop_more line i 0 h)

at_end : (line : Bytes) (i : ℕ) → i ≡ length line → line ≡ take i line ++ []
at_end line i h = sym (append-nil (take i line) ∙ take_all i line (omega arith))

module _ {all : List Slot} {line : Bytes} where
  -- the byte at i leads from M to N
  pub move : {M N : Bytes → Type 0} (i b : ℕ) → Left all line i M → i < length line → get_or line i 0 ≡ b → ((r : Bytes) → M (b ∷ r) → N r) → ((r : Bytes) → N r → M (b ∷ r)) → Left all line (i + 1) N
  move {M} {N} i b l h is in-to out =
      let e : (r : Bytes) → take (i + 1) line ++ r ≡ take i line ++ b ∷ r = λ r. one_on line i r h ∙ ap (λ (x : ℕ). take i line ++ x ∷ r) is in
      record {
        to = λ r g. in-to r (l.to (b ∷ r) (subst (Laid all) (e r) g));
        from = λ r g. subst (Laid all) (sym (e r)) (l.from (b ∷ r) (out r g));
      }

  pub fault_here : (i : ℕ) → i ≤ length line → Begins (Laid all) (take i line) → (i < length line → (r : Bytes) → Laid all (take i line ++ get_or line i 0 ∷ r) → ⊥) → (i ≡ length line → Laid all line → ⊥) → FaultAt (Laid all) line (i + 1)
  fault_here i h some stuck short =
      let back : i + 1 - 1 ≡ i = omega arith in
      record {
        first = omega arith;
        within = omega arith;
        begins = subst (λ n. Begins (Laid all) (take n line)) (sym back) some;
        stops = λ l g. let on : i < length line = omega arith in stuck on g.0 (subst (Laid all) (one_on line i g.0 on) g.1);
        refused = λ g. ⊎_elim (λ on. stuck on (drop (i + 1) line) (subst (Laid all) (whole_from line i on) g)) (λ past. short (omega arith) g) (cases_lt i (length line));
      }

  -- no blank where a field is due
  pub gap_fault : (i : ℕ) (ts : List Slot) → i ≤ length line → Gap all line i false ts → (i < length line → get_or line i 0 ≡ 32 → ⊥) → FaultAt (Laid all) line (i + 1)
  gap_fault i ts h gap no_blank =
      fault_here i h gap.begins (λ on r. gap.other r on (no_blank on))
      (λ end g. let q : false ≡ true = gap.end_in end g in let z : ◌≡◌ {A = ℕ} 0 1 = cc in omega arith)

  -- no field is left
  pub last_fault : (i : ℕ) → i ≤ length line → Gap all line i false [] → FaultAt (Laid all) line (i + 1)
  last_fault i h gap =
      fault_here i h gap.begins
      (λ on r g. ⊎_elim (λ is. gap.blank_in r (subst (λ (x : ℕ). Laid all (take i line ++ x ∷ r)) is g)) (λ other. gap.other r on other g) (cases_eq (get_or line i 0) 32))
      (λ end g. let q : false ≡ true = gap.end_in end g in let z : ◌≡◌ {A = ℕ} 0 1 = cc in omega arith)

  -- before the line's end it does not matter whether the line may end
  pub gap_inside : (i : ℕ) (e e' : Bool) (ts : List Slot) → i < length line → Gap all line i e ts → Gap all line i e' ts
  gap_inside i e e' ts h gap = record {
    begins = gap.begins;
    blank_in = gap.blank_in;
    blank_out = gap.blank_out;
    other = gap.other;
    end_in = λ end g. absurd (omega arith);
    end_out = λ end g. absurd (omega arith);
  }

  pub after_gap : (i d : ℕ) (e : Bool) (ts : List Slot) → Left all line i (After d e ts) → (i < length line → Digit (get_or line i 0) → d ≡ 0) → Fillable e ts → Gap all line i e ts
  after_gap i d e ts l full fill = record {
    begins = begun ts fill;
    blank_in = λ r g. after_blank_in d e ts r (l.to (32 ∷ r) g);
    blank_out = λ r g. l.from (32 ∷ r) (after_blank_out d e ts r g);
    other = λ r on no_blank g. after_other d e ts (get_or line i 0) r no_blank (full on) (l.to (get_or line i 0 ∷ r) g);
    end_in = λ end g. after_end_in d e ts (l.to [] (subst (Laid all) (at_end line i end) g));
    end_out = λ end g. subst (Laid all) (sym (at_end line i end)) (l.from [] (after_end_out d e ts g));
  }
    where
      begun : (us : List Slot) → Fillable e ts → Begins (Laid all) (take i line)
      begun us f = let r = spaced f.0 in (r, l.from r ([], f.0, refl, tt, omega arith, f.1))

  -- the blank of a field
  pub gap_blank : (i : ℕ) (e : Bool) (ts : List Slot) → Gap all line i e ts → i < length line → get_or line i 0 ≡ 32 → Left all line (i + 1) (Next ts)
  gap_blank i e ts gap h is =
      let same : (r : Bytes) → take (i + 1) line ++ r ≡ take i line ++ 32 ∷ r = λ r. one_on line i r h ∙ ap (λ (x : ℕ). take i line ++ x ∷ r) is in
      record {
        to = λ r g. gap.blank_in r (subst (Laid all) (same r) g);
        from = λ r g. subst (Laid all) (sym (same r)) (gap.blank_out r g);
      }

  -- n digits more
  pub digits_on : (n i d : ℕ) (e : Bool) (ts : List Slot) → Left all line i (After (n + d) e ts) → i + n ≤ length line → ((k : ℕ) → k < n → Digit (get_or line (i + k) 0)) → Left all line (i + n) (After d e ts)
  digits_on zero i d e ts l h dg =
      let p : 0 + d ≡ d = omega arith in
      let q : i ≡ i + 0 = omega arith in
      subst (λ x. Left all line x (After d e ts)) q (subst (λ x. Left all line i (After x e ts)) p l)
  digits_on (suc n) i d e ts l h dg =
      let p : suc n + d ≡ suc (n + d) = omega arith in
      let q : i + 1 + n ≡ i + suc n = omega arith in
      let zeroth : i + 0 ≡ i = omega arith in
      let here : Digit (get_or line i 0) = subst (λ x. Digit (get_or line x 0)) zeroth (dg 0 (omega arith)) in
      let m = subst (λ x. Left all line i (After x e ts)) p l in
      let next = move i (get_or line i 0) m (omega arith) refl (λ r. after_digit_in (n + d) e ts (get_or line i 0) r here) (λ r. after_digit_out (n + d) e ts (get_or line i 0) r here) in
      subst (λ x. Left all line x (After d e ts)) q
      (digits_on n (i + 1) d e ts next (omega arith) (λ k lt. let s : i + suc k ≡ i + 1 + k = omega arith in subst (λ x. Digit (get_or line x 0)) s (dg (suc k) (omega arith))))

  -- the digits of a field, from the first on
  pub field_end : (k : Kind) (e : Bool) (ts : List Slot) (i n : ℕ) → Fillable e ts → Left all line i (Next ((k, e) ∷ ts)) → DigitRun line i n → 1 ≤ n → Gap all line (i + n) e ts
  field_end k e ts i zero fill l run some = absurd (omega arith)
  field_end k e ts i (suc n) fill l run some =
      let in-line = run.within in
      let few = run.short in
      let zeroth : i + 0 ≡ i = omega arith in
      let here : Digit (get_or line i 0) = subst (λ x. Digit (get_or line x 0)) zeroth (run.all 0 (omega arith)) in
      let first = move i (get_or line i 0) l (omega arith) refl (λ r. head_digit_in k e ts (get_or line i 0) r here) (λ r. head_digit_out k e ts (get_or line i 0) r here) in
      let p : 6 ≡ n + (6 - n) = omega arith in
      let q : i + 1 + n ≡ i + suc n = omega arith in
      let on = digits_on n (i + 1) (6 - n) e ts (subst (λ x. Left all line (i + 1) (After x e ts)) p first) (omega arith)
      (λ j lt. let s : i + suc j ≡ i + 1 + j = omega arith in subst (λ x. Digit (get_or line x 0)) s (run.all (suc j) (omega arith))) in
      after_gap (i + suc n) (6 - n) e ts (subst (λ x. Left all line x (After (6 - n) e ts)) q on)
      (λ inside dg. ⊎_elim (λ lt. absurd (run.stops lt inside dg)) (λ ge. omega arith) (cases_lt (suc n) 7))
      fill

  -- no digit where one is due
  pub field_fault : (k : Kind) (e : Bool) (ts : List Slot) (i : ℕ) → Fillable e ts → i ≤ length line → Left all line i (Next ((k, e) ∷ ts)) → DigitRun line i 0 → (i < length line → get_or line i 0 ≡ 45 → k ≡ Number) → FaultAt (Laid all) line (i + 1)
  field_fault k e ts i fill h l run sign =
      let zeroth : i + 0 ≡ i = omega arith in
      let f = fill_more k e ts fill in
      fault_here i h (begun f)
      (λ on r g. head_other k e ts (get_or line i 0) r (λ dg. run.stops (omega arith) (omega arith) (subst (λ x. Digit (get_or line x 0)) (sym zeroth) dg)) (sign on) (l.to (get_or line i 0 ∷ r) g))
      (λ end g. head_end k e ts (l.to [] (subst (Laid all) (at_end line i end) g)))
    where
      begun : Fillable false ((k, e) ∷ ts) → Begins (Laid all) (take i line)
      begun f = go f.0 f.1
        where
          go : (fs : List Bytes) → Fits false ((k, e) ∷ ts) fs → Begins (Laid all) (take i line)
          go [] p = let z : ◌≡◌ {A = ℕ} 0 1 = cc in absurd (omega arith)
          go (x ∷ fs) p = let r = x ++ spaced fs in (r, l.from r (x, fs, refl, p.0, p.1))

  -- the sign of a field, and then its digits
  pub sign_on : (k : Kind) (e : Bool) (ts : List Slot) (i j : ℕ) → Left all line i (Next ((k, e) ∷ ts)) → SignEnd line i k j → (k' : Kind) × Left all line j (Next ((k', e) ∷ ts)) × (j < length line → get_or line j 0 ≡ 45 → k' ≡ Number)
  sign_on k e ts i j l =
      ⊎_elim
      (λ s. (k, subst (λ x. Left all line x (Next ((k, e) ∷ ts))) (sym s.0) l, subst (λ x. x < length line → get_or line x 0 ≡ 45 → k ≡ Number) (sym s.0) s.1))
      (λ s.
      let m = subst (λ x. Left all line i (Next ((x, e) ∷ ts))) s.3 l in
      let on = move i 45 m s.1 s.2 (head_minus_in e ts) (head_minus_out e ts) in
      (Number, subst (λ x. Left all line x (Next ((Number, e) ∷ ts))) (sym s.0) on, λ _ _. refl))

-- the digits at the front of what is left of the line
pub run_from : (line : Bytes) (at n : ℕ) → at ≤ length line → DigitRun (between at (length line) line) 0 n → DigitRun line at n
run_from line at n h run =
    let rest = take_rest line at in
    let long = ap length rest ∙ length-drop at line in
    let byte : (k : ℕ) → get_or (between at (length line) line) (0 + k) 0 ≡ get_or line (at + k) 0 =
    λ k. let same : 0 + k ≡ k = omega arith in ap (λ (xs : Bytes). get_or xs (0 + k) 0) rest ∙ ap (λ i. get_or (drop at line) i 0) same ∙ get_or-drop at line k 0 in
    let in-rest = run.within in
    record {
      within = omega arith;
      short = run.short;
      all = λ k lt. subst Digit (byte k) (run.all k lt);
      stops = λ few on digit. run.stops few (omega arith) (subst Digit (sym (byte n)) digit);
    }

-- a blank, perhaps a sign, and the digits after it; l and m are the line as it is after each step
module _ {all : List Slot} (line l m : Bytes) (at i from n : ℕ) (k : Kind) (e : Bool) (ts : List Slot) (fill : Fillable e ts) (gap : Gap all line at false ((k, e) ∷ ts)) (blank : (i ≡ at + 1) × (at < length line) × (get_or line at 0 ≡ 32)) (l-is : l ≡ line) (sign : SignEnd l i k from) (m-is : m ≡ l) (within : from ≤ length m) (digits : DigitRun (between from (length m) m) 0 n) where
  run : DigitRun line from n
  run = subst (λ x. DigitRun x from n) (m-is ∙ l-is) (run_from m from n within digits)

  signed : (k' : Kind) × Left all line from (Next ((k', e) ∷ ts)) × (from < length line → get_or line from 0 ≡ 45 → k' ≡ Number)
  signed = sign_on k e ts _ _ (gap_blank at false _ gap blank.1 blank.2) (subst (λ x. SignEnd line x k from) blank.0 (subst (λ x. SignEnd x i k from) l-is sign))

  pub field_passed : 1 ≤ n → Gap all line (from + n) e ts
  field_passed some = field_end signed.0 e ts from n fill signed.1 run some

  pub field_stopped : n ≡ 0 → FaultAt (Laid all) line (from + 1)
  field_stopped none = let w = run.within in field_fault signed.0 e ts from fill (omega arith) signed.1 (subst (DigitRun line from) none run) signed.2

-- the first kind of what is left of a group
pub gap_kind : {all : List Slot} {line : Bytes} (ks : List Kind) (i at : ℕ) (k : Kind) (ts : List Slot) → i < length ks → k ≡ get_or ks i k → Gap all line at (no_kinds (drop i ks)) (marked (drop i ks) ts) → Gap all line at false ((k, no_kinds (drop (i + 1) ks)) ∷ marked (drop (i + 1) ks) ts)
gap_kind {all} {line} ks i at k ts h is gap =
    let front : drop i ks ≡ k ∷ drop (i + 1) ks = drop_more ks i k h ∙ ap (λ (x : Kind). x ∷ drop (i + 1) ks) (sym is) in
    subst (λ (l : List Kind). Gap all line at (no_kinds l) (marked l ts)) front gap

-- what a field of a group answers, where l is the line as it is then
pub group_more : (P : List Slot → Bytes → Bool → List Slot → Type 0) (all : List Slot) (line l : Bytes) (ks : List Kind) (i at : ℕ) (k : Kind) (ts : List Slot) → l ≡ line → i < length ks → k ≡ get_or ks i k
    → ((e : Bool) (us : List Slot) → Fillable e us → (all : List Slot) → Gap all l at false ((k, e) ∷ us) → P all l e us)
    → Gap all line at (no_kinds (drop i ks)) (marked (drop i ks) ts) → P all line (no_kinds (drop (i + 1) ks)) (marked (drop (i + 1) ks) ts)
group_more P all line l ks i at k ts l-is h is answer gap =
    let rest = drop (i + 1) ks in
    let here = gap_kind ks i at k ts h is gap in
    subst (λ x. P all x (no_kinds rest) (marked rest ts)) l-is (answer (no_kinds rest) (marked rest ts) (fill_marked rest ts) all (subst (λ x. Gap all x at false ((k, no_kinds rest) ∷ marked rest ts)) (sym l-is) here))

pub gap_all : {all : List Slot} {line : Bytes} (ks : List Kind) (i at : ℕ) (ts : List Slot) → length ks ≤ i → Gap all line at (no_kinds (drop i ks)) (marked (drop i ks) ts) → Gap all line at true ts
gap_all {all} {line} ks i at ts h gap = subst (λ (l : List Kind). Gap all line at (no_kinds l) (marked l ts)) (drop_all i ks h) gap

none_false : (ks : List Kind) → 1 ≤ length ks → no_kinds ks ≡ false
none_false [] h = absurd (omega arith)
none_false (k ∷ ks) h = refl

-- one group of those that are left
pub gap_group : {all : List Slot} {line : Bytes} (ks : List Kind) (n i at : ℕ) → 1 ≤ length ks → i < n → Gap all line at false (layout ks (n - i)) → Gap all line at (no_kinds ks) (marked ks (layout ks (n - (i + 1))))
gap_group {all} {line} ks n i at some h gap =
    let p : n - i ≡ suc (n - (i + 1)) = omega arith in
    subst (λ e. Gap all line at e (marked ks (layout ks (n - (i + 1))))) (sym (none_false ks some)) (subst (λ m. Gap all line at false (layout ks m)) p gap)

-- what a group answers, where l is the line as it is then
pub layout_more : (P : List Slot → Bytes → List Slot → Type 0) (line l : Bytes) (ks : List Kind) (n i at : ℕ) → l ≡ line → 1 ≤ length ks → i < n
    → ((ts all : List Slot) → Gap all l at (no_kinds ks) (marked ks ts) → P all l ts)
    → Gap (layout ks n) line at false (layout ks (n - i)) → P (layout ks n) line (layout ks (n - (i + 1)))
layout_more P line l ks n i at l-is some h answer gap =
    let rest = layout ks (n - (i + 1)) in
    subst (λ x. P (layout ks n) x rest) l-is (answer rest (layout ks n) (subst (λ x. Gap (layout ks n) x at (no_kinds ks) (marked ks rest)) (sym l-is) (gap_group ks n i at some h gap)))

-- after the line's first byte
pub gap_start : (line : Bytes) (ks : List Kind) (n : ℕ) → 1 ≤ length line → 1 ≤ length ks → 1 ≤ n → Gap (layout ks n) line 1 false (layout ks n)
gap_start [] ks n h some more = absurd (omega arith)
gap_start (c ∷ bs) ks n h some more =
    let p : suc (n - 1) ≡ n = omega arith in
    let fill : Fillable false (layout ks n) = subst (λ m. Fillable false (layout ks m)) p (subst (λ e. Fillable e (marked ks (layout ks (n - 1)))) (none_false ks some) (fill_marked ks (layout ks (n - 1)))) in
    after_gap 1 0 false (layout ks n) (record {
      to = λ r g. ([], g.0, g.1, tt, omega arith, g.2);
      from = λ r a. none_more r a.0 a.1 a.2 a.4 a.5;
    }) (λ _ _. refl) fill
  where
    none_more : (r ds : Bytes) (fs : List Bytes) → r ≡ ds ++ spaced fs → length ds ≤ 0 → Fits false (layout ks n) fs → FieldsFor (layout ks n) r
    none_more r [] fs p l f = (fs, p, f)
    none_more r (d ∷ ds) fs p l f = absurd (omega arith)

pub gap_last : {all : List Slot} {line : Bytes} (ks : List Kind) (n i at : ℕ) → n ≤ i → Gap all line at false (layout ks (n - i)) → Gap all line at false []
gap_last {all} {line} ks n i at h gap = let p : n - i ≡ 0 = omega arith in subst (λ m. Gap all line at false (layout ks m)) p gap
