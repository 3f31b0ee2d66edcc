-- What is read so far of a text of readings.
use Rattle.std.proofs.Common.{◌≡◌, ℕ, ◌+◌, ◌-◌, ◌<◌, ◌≤◌, List, [], ◌∷◌, ◌++◌, map, refl, sym, ap, ◌∙◌, subst, inl, inr, append_assoc, append-nil, Ok, Err, cond, arith, eqb}
use Rattle.std.proofs.lemmas.List.{map-append}
use Rattle.std.proofs.lemmas.Bool.{eq-eqb, ne_eqb}
use Rattle.quantity.specs.declared.numbers.Whole.{Whole}
use Rattle.text.specs.Grammar.{Bytes}
use Rattle.text.specs.Newlines.{lines_of}
use Rattle.readings_text.specs.declared.faults.ReadingsFault.{ReadingsFault}
use Rattle.readings_text.specs.declared.faults.ReadingsFault.TheVariants.{TooFew}
use Rattle.readings_text.specs.declared.lines.Reading.{Reading}
use Rattle.readings_text.specs.Lines.{WritesReading, ReadingAtFault}
use Rattle.readings_text.specs.Readings.{Gives, ReadsReadings, ReadingsAnswer}

module _ (text : Bytes) (variables : ℕ) (values rates : List Whole) where
  -- some readings are read, and reading on is reading all
  abbrev pub Kept : ℕ → ℕ → Bytes → List Whole → List Whole → Type 0
  Kept wanted n rest values' rates' =
      (vs : List Reading)
      × (values' ≡ values ++ map (λ (v : Reading). v.value) vs)
      × (rates' ≡ rates ++ map (λ (v : Reading). v.rate) vs)
      × ((r : ReadingsAnswer) (ws : List Reading) → Gives wanted n (lines_of rest) r ws → Gives variables 0 (lines_of text) r (vs ++ ws))

  pushed : {X : Type 0} (f : Reading → X) (xs ys zs : List X) (vs : List Reading) (v : Reading) → ys ≡ xs ++ map f vs → zs ≡ ys ++ f v ∷ [] → zs ≡ xs ++ map f (vs ++ v ∷ [])
  pushed f xs ys zs vs v was now = now ∙ ap (λ (y : List _). y ++ f v ∷ []) was ∙ append_assoc xs (map f vs) (f v ∷ []) ∙ ap (λ (y : List _). xs ++ y) (sym (map-append f vs (v ∷ [])))

  pub one_more : (wanted n m : ℕ) (rest rest' line : Bytes) (v : Reading) (values' values'' rates' rates'' : List Whole) → Kept wanted n rest values' rates' → lines_of rest ≡ line ∷ lines_of rest' → m ≡ n + 1 → WritesReading line v → 1 ≤ wanted → values'' ≡ values' ++ v.value ∷ [] → rates'' ≡ rates' ++ v.rate ∷ [] → Kept (wanted - 1) m rest' values'' rates''
  one_more wanted n m rest rest' line v values' values'' rates' rates'' kept listed is writes some vs' rs' = (
    kept.0 ++ v ∷ [],
    pushed (λ (x : Reading). x.value) values values' values'' kept.0 v kept.1 vs',
    pushed (λ (x : Reading). x.rate) rates rates' rates'' kept.0 v kept.2 rs',
    λ r ws g.
        let here : Gives wanted n (line ∷ lines_of rest') r (v ∷ ws) = inr (inl (v, ws, writes, some, refl, subst (λ (k : ℕ). Gives (wanted - 1) k (lines_of rest') r ws) is g)) in
        subst (Gives variables 0 (lines_of text) r) (sym (append_assoc kept.0 (v ∷ []) ws)) (kept.3 r (v ∷ ws) (subst (λ (ls : List Bytes). Gives wanted n ls r (v ∷ ws)) (sym listed) here)),
  )

  ends : (wanted n : ℕ) (rest : Bytes) (r : ReadingsAnswer) (values' rates' : List Whole) → Kept wanted n rest values' rates' → Gives wanted n (lines_of rest) r [] → ReadsReadings text variables r values rates values' rates'
  ends wanted n rest r values' rates' kept g = (kept.0, subst (Gives variables 0 (lines_of text) r) (append-nil kept.0) (kept.3 r [] g), kept.1, kept.2)

  pub at_fault : (wanted n : ℕ) (rest rest' line : Bytes) (f : ReadingsFault) (values' rates' : List Whole) → Kept wanted n rest values' rates' → lines_of rest ≡ line ∷ lines_of rest' → ReadingAtFault wanted (n + 1) line f → ReadsReadings text variables (Err f) values rates values' rates'
  at_fault wanted n rest rest' line f values' rates' kept listed fault =
      let here : Gives wanted n (line ∷ lines_of rest') (Err f) [] = inr (inr (fault, refl)) in
      ends wanted n rest (Err f) values' rates' kept (subst (λ (ls : List Bytes). Gives wanted n ls (Err f) []) (sym listed) here)

  at_end : (wanted n : ℕ) (rest : Bytes) (r : ReadingsAnswer) (values' rates' : List Whole) → Kept wanted n rest values' rates' → lines_of rest ≡ [] → r ≡ cond (eqb wanted 0) (Ok tt) (Err (TooFew n)) → ReadsReadings text variables r values rates values' rates'
  at_end wanted n rest r values' rates' kept listed is =
      ends wanted n rest r values' rates' kept (subst (λ (ls : List Bytes). Gives wanted n ls r []) (sym listed) (refl, is))

  pub too_few : (wanted n : ℕ) (rest : Bytes) (values' rates' : List Whole) → Kept wanted n rest values' rates' → lines_of rest ≡ [] → 0 < wanted → ReadsReadings text variables (Err (TooFew n)) values rates values' rates'
  too_few wanted n rest values' rates' kept listed some =
      at_end wanted n rest (Err (TooFew n)) values' rates' kept listed (ap (λ b. cond b (Ok tt) (Err (TooFew n))) (sym (ne_eqb wanted 0 (λ e. omega arith))))

  pub enough : (wanted n : ℕ) (rest : Bytes) (values' rates' : List Whole) → Kept wanted n rest values' rates' → lines_of rest ≡ [] → wanted ≡ 0 → ReadsReadings text variables (Ok tt) values rates values' rates'
  enough wanted n rest values' rates' kept listed none =
      at_end wanted n rest (Ok tt) values' rates' kept listed (ap (λ b. cond b (Ok tt) (Err (TooFew n))) (sym (eq-eqb wanted 0 none)))
