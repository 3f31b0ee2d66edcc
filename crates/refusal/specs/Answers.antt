-- Answers of what is asked inside a call.
use Rattle.std.specs.Prelude.{◌≡◌, Some, None, Option, Result, MatchResult}

-- an answer that is refused exactly as a judge says
abbrev pub Tells : {R X : Type 0} → Option R → Result X R → Type 0
Tells judged answer = MatchResult answer (λ _. judged ≡ None) (λ why. judged ≡ Some why)

-- the same, where what is answered has P
abbrev pub Accepts : {R X : Type 0} → Option R → (X → Type 0) → Result X R → Type 0
Accepts judged P answer = MatchResult answer (λ x. (judged ≡ None) × P x) (λ why. judged ≡ Some why)
