-- Readings that are read are small, and those that are read to their end are as many as were wanted.
use Rattle.std.proofs.Common.{◌≡◌, ℕ, ◌+◌, ◌-◌, List, [], ◌∷◌, ◌++◌, map, length, Ok, Err, Bool, true, false, cond, eqb, true-eqb, refl, sym, ap, ◌∙◌, subst, ⊎_elim, arith}
use Rattle.std.specs.List.{All}
use Rattle.std.proofs.lemmas.List.{length-map, length-append}
use Rattle.std.proofs.lemmas.List.Elements.{All-append, All-cons, All-map}
use Rattle.quantity.specs.declared.numbers.Whole.{Whole}
use Rattle.small_readings.specs.Small.{IsSmall, AreSmall}
use Rattle.text.specs.Grammar.{Bytes}
use Rattle.text.specs.Newlines.{lines_of}
use Rattle.readings_text.specs.declared.faults.ReadingsFault.{ReadingsFault}
use Rattle.readings_text.specs.declared.faults.ReadingsFault.TheVariants.{TooFew}
use Rattle.readings_text.specs.declared.lines.Reading.{Reading}
use Rattle.readings_text.specs.Readings.{Gives, ReadingsAnswer, AddsReadings, ReadingsFit}

told : (enough : Bool) (f : ReadingsFault) → ◌≡◌ {A = ReadingsAnswer} (Ok tt) (cond enough (Ok tt) (Err f)) → true ≡ enough
told true f e = refl
told false f e = cc

as_wanted : (wanted n : ℕ) (lines : List Bytes) (vs : List Reading) → Gives wanted n lines (Ok tt) vs → length vs ≡ wanted
as_wanted wanted n [] vs g = ap length g.0 ∙ sym (true-eqb wanted 0 (told (eqb wanted 0) (TooFew n) g.1))
as_wanted wanted n (line ∷ lines) vs g =
    ⊎_elim
    (λ silent. as_wanted wanted (n + 1) lines vs silent.1)
    (⊎_elim
    (λ read. let some = read.3 in let long = ap length read.4 in omega (arith, as_wanted (wanted - 1) (n + 1) lines read.1 read.5))
    (λ fault. absurd fault.0))
    g

-- each line reads a small value and a small rate
abbrev BothSmall : Reading → Type 0
BothSmall v = IsSmall v.value × IsSmall v.rate

no_reading : (vs : List Reading) → vs ≡ [] → All BothSmall vs
no_reading vs none = subst (All BothSmall) (sym none) (λ k d l. absurd (omega (arith, l)))

all_small : (wanted n : ℕ) (lines : List Bytes) (r : ReadingsAnswer) (vs : List Reading) → Gives wanted n lines r vs → All BothSmall vs
all_small wanted n [] r vs g = no_reading vs g.0
all_small wanted n (line ∷ lines) r vs g =
    ⊎_elim
    (λ silent. all_small wanted (n + 1) lines r vs silent.1)
    (⊎_elim
    (λ read. subst (All BothSmall) (sym read.4) (All-cons BothSmall read.0 read.1 (read.2.1, read.2.2) (all_small (wanted - 1) (n + 1) lines r read.1 read.5)))
    (λ fault. no_reading vs fault.1))
    g

adds : (f : Reading → Whole) → ((v : Reading) → BothSmall v → IsSmall (f v)) → (variables n : ℕ) (lines : List Bytes) (r : ReadingsAnswer) (old new : List Whole) (vs : List Reading) → Gives variables n lines r vs → new ≡ old ++ map f vs → AddsReadings variables r old new
adds f small variables n lines r old new vs g is = record {
  small = λ was.
      let each = all_small variables n lines r vs g in
      subst AreSmall (sym is) (All-append IsSmall old (map f vs) was (All-map IsSmall f vs (λ k d l. small _ (each k d l))));
  complete = λ read.
      let many = as_wanted variables n lines vs (subst (λ (x : ReadingsAnswer). Gives variables n lines x vs) read g) in
      ap length is ∙ length-append old (map f vs) ∙ ap (λ k. length old + k) (length-map vs f ∙ many);
}

pub readings_fit : ReadingsFit
readings_fit text variables r values rates values' rates' h =
    let lines = lines_of text in (
      adds (λ (v : Reading). v.value) (λ v both. both.0) variables 0 lines r values values' h.0 h.1 h.2,
      adds (λ (v : Reading). v.rate) (λ v both. both.1) variables 0 lines r rates rates' h.0 h.1 h.3,
    )
