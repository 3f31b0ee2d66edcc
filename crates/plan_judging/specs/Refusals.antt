-- The number, the place and the cause of each refusal of placing an assembly.
use Rattle.std.specs.Prelude.{ℕ, ◌+◌}
use Rattle.draft.specs.Refusals.{number_of as draft_number, table_number}
use Rattle.plan_judging.specs.declared.refusals.PlaceRefusal.{PlaceRefusal}
use Rattle.plan_judging.specs.declared.refusals.PlaceRefusal.TheVariants.{Void, NoNode, Domain, Row, Law, Limit}

abbrev pub number_of : PlaceRefusal → ℕ
number_of Void = 8
number_of (NoNode end) = 2
number_of (Domain end) = 4
number_of (Row row inner) = 9
number_of (Law law inner) = 9
number_of (Limit table) = 1

-- the place of law 0 of a plan; the places below are its rows'
abbrev pub first_law : ℕ
first_law = 10000

-- The assembly is argument 1, and the nodes for its ends, counted from 0, are the arguments behind it. For a
-- row or a law it is which, and for a limit the table.
abbrev pub place_of : PlaceRefusal → ℕ
place_of Void = 1
place_of (NoNode end) = 2 + end
place_of (Domain end) = 2 + end
place_of (Row row inner) = row
place_of (Law law inner) = first_law + law
place_of (Limit table) = table_number table

-- for a row or a law the number of the refusal that it would meet
abbrev pub cause_of : PlaceRefusal → ℕ
cause_of Void = 0
cause_of (NoNode end) = 0
cause_of (Domain end) = 0
cause_of (Row row inner) = draft_number inner
cause_of (Law law inner) = draft_number inner
cause_of (Limit table) = 0
