-- The terms of a plan's law, with the variables counted on.
use Rattle.std.specs.Prelude.{ℕ, ◌+◌, List, map}
use Rattle.netlist.specs.declared.terms.RawTerm.{RawTerm}
use Rattle.netlist.specs.Renaming.{Renaming, renamed_raw_term}

-- the plan's variables are the ones from n on
abbrev pub counting_on : ℕ → Renaming
counting_on n = record { node = λ k. k; variable = λ v. n + v }

abbrev pub counted_on : ℕ → RawTerm ℕ → RawTerm ℕ
counted_on n t = renamed_raw_term (counting_on n) t

abbrev pub law_from : ℕ → List (RawTerm ℕ) → List (RawTerm ℕ)
law_from n law = map (counted_on n) law
