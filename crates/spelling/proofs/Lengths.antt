-- How long the line of an equation is.
use Rattle.std.proofs.Common.{◌≡◌, ℕ, ◌+◌, ◌-◌, ◌*◌, ◌^◌, ◌<◌, ◌≤◌, Bool, true, false, cond, List, [], ◌∷◌, ◌++◌, length, ℤ, pos, negsuc, codes, decimal, refl, arith, nat_lt, eqb, unsigned_abs, zero, suc, ◌/◌, ◌%◌}
use Rattle.std.specs.Fmt.{digits, digits_onto, digit_glyph}
use Rattle.std.proofs.lemmas.Fmt.{length-decimal-le}
use Rattle.std.proofs.lemmas.List.{length-append}
use Rattle.netlist.specs.declared.terms.Order.{Order}
use Rattle.netlist.specs.declared.terms.Order.TheVariants.{Value as ByValue, Rate as ByRate}
use Rattle.netlist.specs.declared.terms.Term.{Term}
use Rattle.spelling.specs.declared.symbols.Symbol.{Symbol}
use Rattle.spelling.specs.declared.symbols.Symbol.TheVariants.{Value, Rate, Potential}
use Rattle.spelling.specs.Symbols.{of_variable, symbol, letter, number}
use Rattle.spelling.specs.Lines.{sign, term_text, rest_text, line_text}

-- the coefficient has at most k digits, and the number behind the letter at most four
pub record Small (k : ℕ) (t : Term) : Type 0 where
  pub digits : length (decimal (unsigned_abs t.coefficient)) ≤ k
  pub few : t.variable < 10 ^ 4

abbrev pub AllSmall : ℕ → List Term → Type 0
AllSmall k [] = Unit {0}
AllSmall k (t ∷ ts) = Small k t × AllSmall k ts

sign_one : (z : ℤ) → length (sign z) ≡ 1
sign_one (pos n) = refl
sign_one (negsuc n) = refl

letter_one : (q : Symbol) → length (letter q) ≡ 1
letter_one (Value v) = refl
letter_one (Rate v) = refl
letter_one (Potential n) = refl

of_variable_number : (o : Order) (v : ℕ) → number (of_variable o v) ≤ v
of_variable_number ByValue v = omega arith
of_variable_number ByRate v = omega arith

number_below : (v : ℕ) (t : Term) → number (symbol v t) ≤ t.variable
number_below v t =
    elim (nat_lt t.variable v) as (λ (b : Bool). number (cond b (of_variable t.order t.variable) (Potential (t.variable - v))) ≤ t.variable) [
      | true ↦ of_variable_number t.order t.variable
      | false ↦ omega arith
    ]

pub term_short : (k v : ℕ) (t : Term) → Small k t → length (term_text v t) ≤ k + 6
term_short k v t s =
    let q = symbol v t in
    let four : length (decimal (number q)) ≤ 4 = length-decimal-le 4 (number q) (omega arith) (omega (arith, s.few, number_below v t)) (omega (arith, s.few, number_below v t)) in
    omega (
      arith,
      s.digits,
      sign_one t.coefficient,
      letter_one q,
      length-append (sign t.coefficient) (decimal (unsigned_abs t.coefficient) ++ (letter q ++ decimal (number q))),
      length-append (decimal (unsigned_abs t.coefficient)) (letter q ++ decimal (number q)),
      length-append (letter q) (decimal (number q)),
    )

pub rest_short : (k v : ℕ) (ts : List Term) → AllSmall k ts → length (rest_text v ts) ≤ (k + 7) * length ts
rest_short k v [] s = omega arith
rest_short k v (t ∷ ts) s =
    omega (arith, term_short k v t s.0, rest_short k v ts s.1, length-append (codes " " ++ term_text v t) (rest_text v ts), length-append (codes " ") (term_text v t))

-- six bytes say that the sum is zero, with the digit of an empty sum
pub line_short : (k v : ℕ) (ts : List Term) → AllSmall k ts → length (line_text v ts) ≤ (k + 7) * length ts + 6
line_short k v [] s = omega arith
line_short k v (t ∷ ts) s =
    omega (arith, term_short k v t s.0, rest_short k v ts s.1, length-append (term_text v t ++ rest_text v ts) (codes " = 0\n"), length-append (term_text v t) (rest_text v ts))

-- digits that are put before others leave these there
some_onto : (k n x : ℕ) (xs : List ℕ) → 0 < length (digits_onto k 10 false n (x ∷ xs))
some_onto zero n x xs = omega arith
some_onto (suc k) n x xs =
    let g = digit_glyph false (n % 10) in
    elim (eqb (n / 10) 0) as (λ (b : Bool). 0 < length (cond b (g ∷ x ∷ xs) (digits_onto k 10 false (n / 10) (g ∷ x ∷ xs)))) [
      | true ↦ omega arith
      | false ↦ some_onto k (n / 10) g (x ∷ xs)
    ]

some_digit : (n : ℕ) → 0 < length (decimal n)
unfolding digits
some_digit n =
    let g = digit_glyph false (n % 10) in
    elim (eqb (n / 10) 0) as (λ (b : Bool). 0 < length (cond b (g ∷ []) (digits_onto 63 10 false (n / 10) (g ∷ [])))) [
      | true ↦ omega arith
      | false ↦ some_onto 63 (n / 10) g []
    ]

-- a sign, a digit, a letter and a digit at least
term_long : (v : ℕ) (t : Term) → 4 ≤ length (term_text v t)
term_long v t =
    let q = symbol v t in
    omega (
      arith,
      sign_one t.coefficient,
      letter_one q,
      some_digit (unsigned_abs t.coefficient),
      some_digit (number q),
      length-append (sign t.coefficient) (decimal (unsigned_abs t.coefficient) ++ (letter q ++ decimal (number q))),
      length-append (decimal (unsigned_abs t.coefficient)) (letter q ++ decimal (number q)),
      length-append (letter q) (decimal (number q)),
    )

rest_long : (v : ℕ) (ts : List Term) → 5 * length ts ≤ length (rest_text v ts)
rest_long v [] = omega arith
rest_long v (t ∷ ts) =
    omega (arith, term_long v t, rest_long v ts, length-append (codes " " ++ term_text v t) (rest_text v ts), length-append (codes " ") (term_text v t))

-- each term takes five bytes at least, with a blank or with what says that the sum is zero
pub line_long : (v : ℕ) (ts : List Term) → 5 * length ts ≤ length (line_text v ts)
line_long v [] = omega arith
line_long v (t ∷ ts) =
    omega (arith, term_long v t, rest_long v ts, length-append (term_text v t ++ rest_text v ts) (codes " = 0\n"), length-append (term_text v t) (rest_text v ts))
