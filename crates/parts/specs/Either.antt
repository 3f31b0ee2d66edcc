-- What one of two assemblies means: what the one that is held means.
use Rattle.assembly.specs.Meaning.{Meaning}
use Rattle.parts.specs.declared.either.Either.{Either}
use Rattle.parts.specs.declared.either.Either.TheVariants.{One, Other}

abbrev pub chosen : {A B : Type 0} → (A → Meaning) → (B → Meaning) → Either A B → Meaning
chosen f g (One a) = f a
chosen f g (Other b) = g b
