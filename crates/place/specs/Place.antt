-- When an assembly is not placed, what placing it answers, and the netlist after it.
use Rattle.std.specs.Prelude.{ℕ, ◌+◌, not, List, [], ◌∷◌, ◌++◌, length, Some, Option, Result, ◌==◌}
use Rattle.std.specs.Option.{option_map, option_or}
use Rattle.netlist.specs.declared.domains.Domain.{Domain}
use Rattle.netlist.specs.Domains.{domain_number}
use Rattle.netlist.specs.Netlist.{Netlist, term_count}
use Rattle.draft.specs.Counting.{room_tests}
use Rattle.draft.specs.Rules.{no_node, domain_of}
use Rattle.refusal.specs.Tests.{Tests, first_of, answer, after}
use Rattle.sheet.specs.declared.counts.Counts.{Counts}
use Rattle.sheet.specs.Counting.{counts_of}
use Rattle.assembly.specs.Meaning.{Meaning, void, plan, Plan}
use Rattle.plan_judging.specs.declared.refusals.PlaceRefusal.{PlaceRefusal}
use Rattle.plan_judging.specs.declared.refusals.PlaceRefusal.TheVariants.{NoNode, Domain as DomainDiffers, Void, Limit}
use Rattle.plan_judging.specs.Alone.{judge_rows, judge_laws}
use Rattle.place.specs.Moved.{moved_rows, moved_laws, widened, with_plan}

-- whether the node given for end i is drawn
abbrev pub node_tests : List ℕ → ℕ → ℕ → Tests PlaceRefusal
node_tests domains i node = (no_node domains node, NoNode i) ∷ []

-- whether a node of domain n has the domain of end i, which is placed at it
abbrev pub domain_tests : ℕ → Domain → ℕ → Tests PlaceRefusal
domain_tests n end i = (not (n == domain_number end), DomainDiffers i) ∷ []

-- the nodes given for the ends in turn, the first of them end i: each is drawn
abbrev pub drawn_tests : List ℕ → ℕ → List ℕ → Tests PlaceRefusal
drawn_tests domains i [] = []
drawn_tests domains i (node ∷ given) = node_tests domains i node ++ drawn_tests domains (i + 1) given

-- and each has the domain of its end
abbrev pub end_tests : List ℕ → ℕ → List Domain → List ℕ → Tests PlaceRefusal
end_tests domains i [] given = []
end_tests domains i (end ∷ ends) [] = []
end_tests domains i (end ∷ ends) (node ∷ given) =
    domain_tests (domain_of domains node) end i ++ end_tests domains (i + 1) ends given

-- what a plan adds to each table
abbrev pub plan_counts : Plan → Counts
plan_counts p = record { nodes = length p.inner; variables = p.variables; rows = length p.rows; laws = length p.laws }

abbrev pub judge_ends : Netlist → List ℕ → Plan → Option PlaceRefusal
judge_ends b given p = first_of (drawn_tests b.domains 0 given ++ end_tests b.domains 0 p.ends given)

-- whether so much more, with so many terms in its laws, passes a limit
abbrev pub judge_room : Netlist → Counts → ℕ → Option PlaceRefusal
judge_room b more terms = option_map (λ table. Limit table) (first_of (room_tests b more terms))

abbrev pub judge_limits : Netlist → Plan → Option PlaceRefusal
judge_limits b p = judge_room b (plan_counts p) (term_count p.laws)

-- The ends; then the rows as they will be drawn, on the netlist with the plan's inner nodes and variables;
-- then the laws; and last the limits.
abbrev pub judge_placing : Netlist → List ℕ → Plan → Option PlaceRefusal
judge_placing b given p =
    option_or (judge_ends b given p)
    (option_or (judge_rows (widened b p) 0 (moved_rows b given p))
    (option_or (judge_laws (b.variables + p.variables) 0 (moved_laws b p)) (judge_limits b p)))

-- place(assembly, nodes), with a node for each end
abbrev pub judge_place : Netlist → Meaning → List ℕ → Option PlaceRefusal
judge_place b void given = Some Void
judge_place b (plan p) given = judge_placing b given p

-- the netlist with all that the assembly adds
abbrev pub with_assembly : Netlist → Meaning → List ℕ → Netlist
with_assembly b void given = b
with_assembly b (plan p) given = with_plan b given p

-- how much was drawn before
abbrev pub answer_place : Netlist → Meaning → List ℕ → Result Counts PlaceRefusal
answer_place b m given = answer (judge_place b m given) (counts_of b)

-- all of it or nothing
abbrev pub after_place : Netlist → Meaning → List ℕ → Netlist
after_place b m given = after (judge_place b m given) b (with_assembly b m given)
