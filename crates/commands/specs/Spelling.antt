-- What a letter and the fields after it spell.
use Rattle.std.specs.Prelude.{ℕ, ◌-◌, cond, List, [], ◌∷◌, ◌++◌, length, drop, replicate, ℤ, pos, ◌==◌, slice_index, slice_index_or}
use Rattle.netlist.specs.declared.terms.RawTerm.{RawTerm}
use Rattle.netlist.specs.Limits.{most_terms_of_law}
use Rattle.text.specs.Grammar.{Bytes}
use Rattle.text.specs.Cut.{cut}
use Rattle.text.specs.Decimal.{value_of_digits, value_of_signed}
use Rattle.commands.specs.declared.terms.Terms.{Terms}
use Rattle.commands.specs.declared.command.Command.{Command}
use Rattle.commands.specs.declared.command.Command.TheVariants.{Node, Variables, Branch, Earth, Law, Repeat, Nothing}

-- the fields of a line: it is cut at its blanks, and the first piece is its letter
abbrev pub fields_of : Bytes → List Bytes
fields_of line = drop 1 (cut 32 line)

-- the number, or the coefficient, that field k writes
abbrev pub number_at : List Bytes → ℕ → ℕ
number_at fs k = value_of_digits (slice_index_or fs k [])

abbrev pub coefficient_at : List Bytes → ℕ → ℤ
coefficient_at fs k = value_of_signed (slice_index_or fs k [])

-- those of a C line
abbrev pub four_coefficients : List Bytes → List ℤ
four_coefficients fs = coefficient_at fs 1 ∷ coefficient_at fs 2 ∷ coefficient_at fs 3 ∷ coefficient_at fs 4 ∷ []

abbrev pub spelled_term : Bytes → Bytes → Bytes → RawTerm ℕ
spelled_term c o v = record { coefficient = value_of_signed c; order = value_of_digits o; variable = value_of_digits v }

-- a term of each three fields
abbrev pub spelled_terms : List Bytes → List (RawTerm ℕ)
spelled_terms [] = []
spelled_terms (c ∷ []) = []
spelled_terms (c ∷ o ∷ []) = []
spelled_terms (c ∷ o ∷ v ∷ fs) = spelled_term c o v ∷ spelled_terms fs

abbrev pub no_term : RawTerm ℕ
no_term = record { coefficient = pos 0; order = 0; variable = 0 }

-- the terms in the first of a law's slots
abbrev pub slotted : List (RawTerm ℕ) → Terms
slotted ts = record { slots = ts ++ replicate (most_terms_of_law - length ts) no_term; count = length ts }

abbrev pub spelled : ℕ → List Bytes → Command
spelled c fs =
    cond (c == 78) (Node (number_at fs 0))  -- N
    (cond (c == 86) (Variables (number_at fs 0))  -- V
    (cond (c == 66) (Branch (number_at fs 0) (number_at fs 1) (number_at fs 2) (number_at fs 3))  -- B
    (cond (c == 69) (Earth (number_at fs 0) (number_at fs 1) (number_at fs 2))  -- E
    (cond (c == 76) (Law (slotted (spelled_terms fs)))  -- L
    (cond (c == 67)  -- C
    (Repeat (number_at fs 0) (four_coefficients fs) (number_at fs 5) (number_at fs 6) (number_at fs 7))
    Nothing)))))

abbrev pub command_of : Bytes → Command
command_of line = spelled (slice_index line 0) (fields_of line)
