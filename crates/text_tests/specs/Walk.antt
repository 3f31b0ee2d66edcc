-- The first line of a list that is not allowed.
use Rattle.std.specs.Prelude.{◌≡◌, ℕ, ◌+◌, ◌⊎◌, List, [], ◌∷◌, IfSome, Option, MatchOption}
use Rattle.text.specs.Grammar.{Bytes, Allowed}
use Rattle.commands.specs.Lines.{Faulty}
use Rattle.text_tests.specs.declared.whole.Place.{Place}

-- n lines stand before these
abbrev pub FirstFault : ℕ → List Bytes → Option Place → Type 0
FirstFault n [] r = IfSome r (λ p. ⊥)
FirstFault n (l ∷ ls) r =
    (Allowed l × FirstFault (n + 1) ls r) ⊎ MatchOption r ⊥ (λ p. (p.line ≡ n + 1) × Faulty l p.column)
