-- Bytes that are put at a place of a buffer, one by one.
use Rattle.std.proofs.Common.{◌≡◌, ℕ, ◌+◌, ◌/◌, ◌%◌, ◌^◌, ◌<◌, ◌≤◌, List, [], ◌∷◌, ◌++◌, length, get_or, take, drop, set, sym, ap, ◌∙◌, subst, decimal, arith}
use Rattle.std.proofs.lemmas.Fmt.{decimal_step}
use Rattle.std.proofs.lemmas.List.{take-append-drop, take_more_set, drop-set-lt, append_assoc, length-take-le, set_at, take_more, length_push}
use Rattle.netlist.specs.Buffers.{written}
use Rattle.netlist.proofs.Buffers.{written_none}
use Rattle.spelling.specs.Puts.{Put}

pub written_byte : (old : List ℕ) (at byte : ℕ) → at < length old → set old at byte ≡ written old at (byte ∷ [])
written_byte old at byte h =
    sym (take-append-drop (at + 1) (set old at byte))
    ∙ (λ i. take_more_set old at byte h i ++ drop-set-lt (at + 1) old at byte (omega arith) i)

-- one element before a piece
written_front : (old new : List ℕ) (a x : ℕ) → a < length old → set (written old (a + 1) new) a x ≡ written old a (x ∷ new)
written_front old new a x h =
    let back = drop (a + 1 + length new) old in
    let front = take a old in
    let y = get_or old a x in
    let last : a + 1 + length new ≡ a + length (x ∷ new) = omega arith in
    ap (λ (f : List ℕ). set ((f ++ new) ++ back) a x) (take_more old a x h)
    ∙ ap (λ (l : List ℕ). set l a x) (append_assoc (front ++ y ∷ []) new back ∙ append_assoc front (y ∷ []) (new ++ back))
    ∙ set_at front y (new ++ back) x a (length-take-le a old (omega arith))
    ∙ sym (append_assoc front (x ∷ new) back)
    ∙ ap (λ (n : ℕ). (front ++ x ∷ new) ++ drop n old) last

-- nothing
pub put_none : (old : List ℕ) (at : ℕ) → Put old at [] old at
put_none old at = record { ends = omega arith; bytes = sym (written_none old at) }

pub put_same : {old xs ys new : List ℕ} {at end : ℕ} → xs ≡ ys → Put old at xs new end → Put old at ys new end
put_same {old} {new = new} {at} {end} e p = subst (λ (text : List ℕ). Put old at text new end) e p

pub put_front : (old xs mid : List ℕ) (at from end x : ℕ) → from ≡ at + 1 → at < length old → Put old from xs mid end → Put old at (x ∷ xs) (set mid at x) end
put_front old xs mid at from end x next h p =
    record {
      ends = omega arith;
      bytes = (λ i. set (p.bytes i) at x) ∙ ap (λ (n : ℕ). set (written old n xs) at x) next ∙ written_front old xs at x h;
    }

pub length_decimal_step : (n : ℕ) → 10 ≤ n → n < 2 ^ 64 → length (decimal n) ≡ length (decimal (n / 10)) + 1
length_decimal_step n h small = ap length (decimal_step n h small) ∙ length_push (decimal (n / 10)) (48 + n % 10)
