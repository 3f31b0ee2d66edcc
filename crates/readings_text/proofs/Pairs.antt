-- What is kept of two numbers is a reading, or one of them is too large.
use Rattle.std.proofs.Common.{◌≡◌, ℤ, inl, inr, ⊎_elim, subst}
use Rattle.text.specs.Grammar.{Bytes}
use Rattle.readings_text.specs.declared.lines.Reading.{Reading}
use Rattle.readings_text.specs.declared.numbers.Written.{Written}
use Rattle.readings_text.specs.declared.numbers.Written.TheVariants.{Small, Large}
use Rattle.readings_text.specs.Numbers.{Writes, Keeps}
use Rattle.readings_text.specs.Lines.{KeepsPair, HasLarge, IsPair, WritesReading, WritesLarge}

some_number : (P : ℤ → Type 0) (kept : Written) → Keeps P kept → (z : ℤ) × P z
some_number P (Small w) h = (w.value, h.0)
some_number P Large h = (h.0, h.1)

pub reading_kept : (line : Bytes) (kept : Written × Written) (v : Reading) → KeepsPair line kept → IsPair kept v → WritesReading line v
reading_kept line kept v h is =
    let value = subst (Keeps (Writes h.0)) is.0 h.3 in
    let rate = subst (Keeps (Writes h.1)) is.1 h.4 in
    ((h.0, h.1, h.2, value.0, rate.0), value.1, rate.1)

pub large_kept : (line : Bytes) (kept : Written × Written) → KeepsPair line kept → HasLarge kept → WritesLarge line
large_kept line kept h large =
    ⊎_elim
    (λ (e : kept.0 ≡ Large).
    let value : Keeps (Writes h.0) Large = subst (Keeps (Writes h.0)) e h.3 in
    let rate = some_number (Writes h.1) kept.1 h.4 in
    (value.0, rate.0, (h.0, h.1, h.2, value.1, rate.1), inl value.2))
    (λ (e : kept.1 ≡ Large).
    let value = some_number (Writes h.0) kept.0 h.3 in
    let rate : Keeps (Writes h.1) Large = subst (Keeps (Writes h.1)) e h.4 in
    (value.0, rate.0, (h.0, h.1, h.2, value.1, rate.1), inr rate.2))
    large
