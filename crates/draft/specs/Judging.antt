-- What is asked of a row or a law.
use Rattle.std.specs.Prelude.{◌≡◌, ℕ, ◌-◌, ◌≤◌, pos, drop, replicate, Bool, ◌||◌, List, [], ◌∷◌, map, length, take, ◌==◌, nat_le}
use Rattle.draft.specs.declared.refusals.Argument.{Argument}
use Rattle.draft.specs.declared.refusals.Argument.TheVariants.{Flow, Across}
use Rattle.draft.specs.declared.refusals.DraftRefusal.{DraftRefusal}
use Rattle.draft.specs.declared.refusals.DraftRefusal.TheVariants.{NoNode, NoVariable, Taken}
use Rattle.netlist.specs.declared.terms.Order.TheVariants.{Value}
use Rattle.netlist.specs.declared.terms.RawTerm.{RawTerm}
use Rattle.netlist.specs.declared.terms.Term.{Term}
use Rattle.netlist.specs.Limits.{most_terms_of_law}
use Rattle.netlist.specs.Netlist.{term_of}
use Rattle.draft.specs.Rules.{no_node}
use Rattle.refusal.specs.Tests.{Tests}

-- what stands in the places of an array that no term of a law takes
abbrev pub no_term : Term
no_term = record { coefficient = pos 0; order = Value; variable = 0 }

-- the first places of an array hold the terms that raw terms stand for
pub record BeginsWith (raw : List (RawTerm ℕ)) (terms : List Term) : Type 0 where
  pub few : length raw ≤ most_terms_of_law
  pub front : take (length raw) terms ≡ map term_of raw
  -- the places behind them hold a term that adds nothing
  pub rest : drop (length raw) terms ≡ replicate (most_terms_of_law - length raw) no_term

-- what can be wrong with a node that an argument names
abbrev pub node_tests : List ℕ → ℕ → Argument → Tests DraftRefusal
node_tests domains node argument = (no_node domains node, NoNode argument) ∷ []

-- what can be wrong with the variables of a row, among variables 0 to n - 1
abbrev pub variable_tests : ℕ → (ℕ → Bool) → ℕ → ℕ → Tests DraftRefusal
variable_tests n taken flow across =
    (nat_le n flow, NoVariable Flow)
    ∷ (nat_le n across, NoVariable Across)
    ∷ (taken flow, Taken Flow)
    ∷ (taken across || (across == flow), Taken Across)
    ∷ []
