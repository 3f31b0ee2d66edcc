-- What is read from the rest of a line: s before, t after.
use Rattle.std.specs.Prelude.{◌≡◌, ℕ, ◌≤◌, List, [], ◌∷◌, ℤ, IfSome, Option, MatchOption}
use Rattle.netlist.specs.declared.terms.RawTerm.{RawTerm}
use Rattle.netlist.specs.Limits.{most_terms_of_law}
use Rattle.text.specs.declared.kinds.Kind.{Kind}
use Rattle.text.specs.declared.kinds.Kind.TheVariants.{Number, Coefficient}
use Rattle.text.specs.Grammar.{Bytes, Text, Matches, kinds_repeated, spaced, term_kinds}
use Rattle.text.specs.Decimal.{value_of_digits, value_of_signed}
use Rattle.commands.specs.declared.terms.Terms.{Terms}
use Rattle.commands.specs.declared.command.Command.{Command}
use Rattle.commands.specs.Spelling.{slotted, spelled, spelled_term, spelled_terms}

-- where a number is next, r is its value, and t is left
abbrev pub ReadsNumber : Bytes → ℕ → Bytes → Type 0
ReadsNumber s r t =
    (g : Bytes) (gs : List Bytes) → s ≡ spaced (g ∷ gs) → Text Number g → (r ≡ value_of_digits g) × (t ≡ spaced gs)

-- the same of a coefficient
abbrev pub ReadsCoefficient : Bytes → ℤ → Bytes → Type 0
ReadsCoefficient s r t =
    (g : Bytes) (gs : List Bytes) → s ≡ spaced (g ∷ gs) → Text Coefficient g
    → (r ≡ value_of_signed g) × (t ≡ spaced gs)

-- and of a term
abbrev pub ReadsTerm : Bytes → Option (RawTerm ℕ) → Bytes → Type 0
ReadsTerm s r t =
    (a b c : Bytes) (gs : List Bytes) → s ≡ spaced (a ∷ b ∷ c ∷ gs) → Text Coefficient a → Text Number b → Text Number c
    → MatchOption r ⊥ (λ v. (v ≡ spelled_term a b c) × (t ≡ spaced gs))

-- where nothing is left, there is no term
abbrev pub ReadsNoTerm : Bytes → Option (RawTerm ℕ) → Type 0
ReadsNoTerm s r = s ≡ [] → IfSome r (λ v. ⊥)

-- where the rest is fields of these kinds, r is what they spell after the letter c
abbrev pub ReadsCommand : ℕ → List Kind → Bytes → Command → Type 0
ReadsCommand c ks s r = (gs : List Bytes) → s ≡ spaced gs → Matches ks gs → r ≡ spelled c gs

-- where the rest is at most as many terms as a law may have, r has them
abbrev pub ReadsLaw : Bytes → Terms → Type 0
ReadsLaw s r =
    (n : ℕ) (gs : List Bytes) → n ≤ most_terms_of_law → s ≡ spaced gs → Matches (kinds_repeated n term_kinds) gs
    → r ≡ slotted (spelled_terms gs)
