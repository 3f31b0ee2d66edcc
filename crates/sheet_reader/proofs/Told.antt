-- The five numbers of a fault, spelled, are the fault's line.
use Rattle.std.proofs.Common.{◌≡◌, ℕ, ◌+◌, ◌^◌, ◌<◌, ◌≤◌, List, [], ◌∷◌, ◌++◌, length, append_assoc, append-nil, codes, decimal, arith}
use Rattle.std.proofs.lemmas.Fmt.{length-decimal-le}
use Rattle.std.proofs.lemmas.List.{length-append}
use Rattle.spelling.specs.Numbers.{numbers_line}
use Rattle.sheet_reader.specs.declared.faults.TextFault.{TextFault}
use Rattle.sheet_reader.specs.Faults.{line_of, column_of, number_of, place_of, cause_of, fault_line}

abbrev pub told : TextFault → List ℕ
told f = line_of f ∷ column_of f ∷ number_of f ∷ place_of f ∷ cause_of f ∷ []

-- a word w and five numbers, each behind x, and then n
grouped : (w x a b c d e n : List ℕ) → w ++ (((x ++ a) ++ ((x ++ b) ++ ((x ++ c) ++ ((x ++ d) ++ ((x ++ e) ++ []))))) ++ n) ≡ (((((w ++ x) ++ a) ++ x) ++ b) ++ x) ++ ((((c ++ x) ++ d) ++ x) ++ e) ++ n
grouped w x a b c d e n = simp (append_assoc, append-nil)

pub line_told : (f : TextFault) → numbers_line (codes "fault") (told f) ≡ fault_line f
line_told f = grouped (codes "fault") (codes " ") (decimal (line_of f)) (decimal (column_of f)) (decimal (number_of f)) (decimal (place_of f)) (decimal (cause_of f)) (codes "\n")

number_short : (n : ℕ) → n < 2 ^ 64 → length (decimal n) ≤ 20
number_short n h = length-decimal-le 20 n (omega arith) (omega arith) h

lengths : (x a b c d e : List ℕ) → length ((((((codes "fault" ++ x) ++ a) ++ x) ++ b) ++ x) ++ ((((c ++ x) ++ d) ++ x) ++ e) ++ codes "\n") ≡ 6 + length x + length a + length x + length b + length x + length c + length x + length d + length x + length e
lengths x a b c d e = simp length-append (omega arith)

pub line_short : (f : TextFault) → line_of f < 2 ^ 64 → column_of f < 2 ^ 64 → number_of f < 2 ^ 64 → place_of f < 2 ^ 64 → cause_of f < 2 ^ 64 → length (fault_line f) ≤ 111
line_short f l c n p q =
    omega (arith, lengths (codes " ") (decimal (line_of f)) (decimal (column_of f)) (decimal (number_of f)) (decimal (place_of f)) (decimal (cause_of f)), number_short (line_of f) l, number_short (column_of f) c, number_short (number_of f) n, number_short (place_of f) p, number_short (cause_of f) q)
