-- The sheets whose answers are known.
use Rattle.std.specs.Prelude.{List, [], ◌∷◌, codes, ℤ, pos, neg_ℤ, None, Some, Ok, Err}
use Rattle.std.specs.List.{AllByRecursion}
use Rattle.draft.specs.declared.refusals.Argument.TheVariants.{Across}
use Rattle.draft.specs.declared.refusals.DraftRefusal.TheVariants.{Limit, Taken}
use Rattle.draft.specs.declared.refusals.Table.TheVariants.{Nodes}
use Rattle.assembly.specs.declared.plans.Size.{Size}
use Rattle.parts.specs.declared.single.Single.{Single}
use Rattle.text.specs.Grammar.{Bytes}
use Rattle.calls.specs.declared.refusals.CallRefusal.TheVariants.{Draft}
use Rattle.sheet_reader.specs.declared.faults.TextFault.TheVariants.{Form, Refused}
use Rattle.checking.specs.declared.verdicts.Verdict.TheVariants as verdict
use Rattle.known_sheets.specs.Cases.{Case, printed, checked, copied, node_behind, Holds}

-- a resistance from node 0 to node 1, which is earthed and kept at no current
abbrev pub resistance : Bytes
resistance = codes "N 1\nN 1\nV 4\nB 0 1 0 1\nE 2 3 1\nL 200 0 0 -1 0 1\nL 1 0 3\n"

abbrev pub resistance_equations : Bytes
resistance_equations =
    codes "equations 6\n+200v0 -1v1 = 0\n+1v3 = 0\n+1v0 = 0\n-1v0 +1v2 = 0\n+1v1 -1p0 +1p1 = 0\n+1v3 -1p1 = 0\n"

-- branches from node 0 to node 1, from node 1 to node 2, and from node 0 to node 2
abbrev pub triangle : Bytes
triangle = codes "N 1\nN 1\nN 1\nV 6\nB 0 1 0 1\nB 2 3 1 2\nB 4 5 0 2\n"

-- flows that keep the nodes of the triangle, and across readings 3, 4 and x
abbrev pub triangle_values : ℤ → List ℤ
triangle_values x = pos 1 ∷ pos 3 ∷ pos 1 ∷ pos 4 ∷ neg_ℤ (pos 1) ∷ x ∷ []

-- a branch that ends where it begins
abbrev pub loop : Bytes
loop = codes "N 1\nV 2\nB 0 1 0 0\n"

-- a branch whose flow and across are one variable
abbrev pub one_variable : Bytes
one_variable = codes "N 1\nV 1\nB 0 0 0 0\n"

-- a branch without its second node
abbrev pub half_branch : Bytes
half_branch = codes "B 0 1 0"

-- the flow's rate is as the across, 7 to 1
abbrev pub spring : Single
spring = record { domain = 3; flow = pos 0; across = neg_ℤ (pos 7); flow_rate = pos 1; across_rate = pos 0 }

abbrev pub three_springs : Size
three_springs = record { ends = 2; inner = 2; variables = 6; rows = 3; laws = 3 }

-- where x, y and z are any across readings
abbrev pub table : ℤ → ℤ → ℤ → List Case
table x y z =
    printed resistance (Ok tt) resistance_equations
    ∷ printed [] (Ok tt) (codes "equations 0\n")
    ∷ printed one_variable (Err (Refused 3 (Draft (Taken Across)))) (codes "fault 3 1 5 2 0\n")
    ∷ printed half_branch (Err (Form 1 8)) (codes "fault 1 8 11 0 0\n")
    ∷ checked [] [] verdict.Holds []
    ∷ checked resistance (pos 0 ∷ pos 0 ∷ pos 0 ∷ pos 0 ∷ []) verdict.Holds (pos 0 ∷ pos 0 ∷ [])
    ∷ checked resistance (pos 0 ∷ pos 5 ∷ pos 0 ∷ pos 0 ∷ []) (verdict.Law 0) (pos 0 ∷ pos 0 ∷ [])
    ∷ checked triangle (triangle_values (pos 7)) verdict.Holds (pos 0 ∷ neg_ℤ (pos 3) ∷ neg_ℤ (pos 7) ∷ [])
    ∷ checked triangle (triangle_values (pos 8)) (verdict.Row 2) (pos 0 ∷ pos 0 ∷ pos 0 ∷ [])
    ∷ checked triangle (pos 1 ∷ x ∷ pos 1 ∷ y ∷ pos 1 ∷ z ∷ []) (verdict.Node 0) (pos 0 ∷ pos 0 ∷ pos 0 ∷ [])
    ∷ checked loop (pos 9 ∷ pos 0 ∷ []) verdict.Holds (pos 0 ∷ [])
    ∷ checked loop (pos 9 ∷ pos 1 ∷ []) (verdict.Row 0) (pos 0 ∷ [])
    ∷ copied 3 spring (Some three_springs)
    ∷ copied 0 spring None
    ∷ node_behind 999 (Ok 999)
    ∷ node_behind 1000 (Err (Limit Nodes))
    ∷ []

-- THEOREM: every case of the table holds
abbrev pub KnownSheets : Type 0
KnownSheets = (x y z : ℤ) → AllByRecursion Holds (table x y z)
