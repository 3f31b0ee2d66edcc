-- What is wrong with a plan by itself.
use Rattle.std.specs.Prelude.{◌≡◌, ℕ, ◌+◌, List, [], ◌∷◌, ◌++◌, map, None, Some, Option, Result}
use Rattle.std.specs.Option.{option_map, option_or}
use Rattle.netlist.specs.declared.domains.Domain.{Domain}
use Rattle.netlist.specs.declared.rows.Row.{Row}
use Rattle.netlist.specs.declared.terms.RawTerm.{RawTerm}
use Rattle.netlist.specs.Domains.{domain_number}
use Rattle.netlist.specs.Netlist.{Netlist, term_count, with_rows}
use Rattle.draft.specs.Rules.{table_row, table_law}
use Rattle.refusal.specs.Answers.{Accepts}
use Rattle.refusal.specs.Tests.{first_of}
use Rattle.assembly.specs.Meaning.{Meaning, void, plan, Plan, domains_of, rows_of, laws_of}
use Rattle.plan_judging.specs.declared.refusals.PlaceRefusal.{PlaceRefusal}
use Rattle.plan_judging.specs.declared.refusals.PlaceRefusal.TheVariants.{Void, Row as RowRefused, Law as LawRefused}

-- The rows in turn, the first of them row k of the plan, each with those before it drawn. Room does not count.
abbrev pub judge_rows : Netlist → ℕ → List (Row ℕ) → Option PlaceRefusal
judge_rows b k [] = None
judge_rows b k (row ∷ rows) =
    option_or (option_map (λ why. RowRefused k why) (first_of (table_row b row)))
    (judge_rows (with_rows b (row ∷ [])) (k + 1) rows)

-- The laws in turn, the first of them law k of the plan, over variables 0 to n - 1.
abbrev pub judge_laws : ℕ → ℕ → List (List (RawTerm ℕ)) → Option PlaceRefusal
judge_laws n k [] = None
judge_laws n k (law ∷ laws) =
    option_or (option_map (λ why. LawRefused k why) (first_of (table_law n law)))
    (judge_laws n (k + 1) laws)

-- nodes of these domains and so many variables, as a netlist
abbrev pub bare_of : List Domain → ℕ → Netlist
bare_of domains n = record { domains = map domain_number domains; variables = n; rows = []; laws = [] }

-- a plan's nodes and variables
abbrev pub bare : Plan → Netlist
bare p = bare_of (p.ends ++ p.inner) p.variables

-- rows first
abbrev pub judge_alone : Plan → Option PlaceRefusal
judge_alone p = option_or (judge_rows (bare p) 0 p.rows) (judge_laws p.variables 0 p.laws)

abbrev pub judge_assembly : Meaning → Option PlaceRefusal
judge_assembly void = Some Void
judge_assembly (plan p) = judge_alone p

-- the rows of an assembly, over so many variables
abbrev pub judge_rows_of : Meaning → ℕ → Option PlaceRefusal
judge_rows_of m n = judge_rows (bare_of (domains_of m) n) 0 (rows_of m)

-- its laws, likewise
abbrev pub judge_laws_of : Meaning → ℕ → Option PlaceRefusal
judge_laws_of m n = judge_laws n 0 (laws_of m)

-- an answer that is refused exactly as judged, and else tells how many terms the laws have together
abbrev pub CountsTerms : Meaning → Option PlaceRefusal → Result ℕ PlaceRefusal → Type 0
CountsTerms m judged answer = Accepts judged (λ terms. terms ≡ term_count (laws_of m)) answer
