use Rattle.assembly.specs.Meaning.{plan}
use Rattle.place.proofs.Judged.{place_judged}
use Rattle.assembly_laws.proofs.judged_alone.Goals as goal

pub returns : goal.returns
returns c = λ b sound a bounded p q h. place_judged b sound p q (plan a) bounded h
