-- What the assemblies that layers are tested on mean.
use Rattle.std.specs.Prelude.{[], ◌∷◌, pos}
use Rattle.netlist.specs.declared.rows.Row.TheVariants.{Branch, Earth}
use Rattle.assembly.specs.Plans.{PlanTerm}
use Rattle.assembly.specs.Meaning.{Meaning, void, plan}
use Rattle.assembly_tests.specs.declared.example_parts.Coupler.{Coupler}
use Rattle.assembly_tests.specs.declared.example_parts.Nothing.{Nothing}

abbrev only_term : PlanTerm
only_term = record { coefficient = pos 5; order = 1; variable = 1 }

abbrev pub coupler : Coupler → Meaning
coupler c = plan (record {
  ends = c.first ∷ c.second ∷ [];
  inner = c.second ∷ [];
  variables = 2;
  rows = Branch 0 1 0 2 ∷ Earth 1 2 3 ∷ [];
  laws = (only_term ∷ []) ∷ [];
})

abbrev pub nothing : Nothing → Meaning
nothing n = void
