-- What a check answers once the laws hold and nothing flows out of any node.
use Rattle.std.proofs.Common.{◌≡◌, ℕ, ◌+◌, List, length, Result, Ok, ◌∙◌, subst, subst₂}
use Rattle.quantity.specs.Group.{Group}
use Rattle.netlist.specs.declared.rows.Row.{Row}
use Rattle.netlist.specs.Netlist.{Netlist}
use Rattle.refusal.specs.Tests.{answer}
use Rattle.netlist.specs.Sound.{Sound}
use Rattle.network.specs.Flows.{NodesKeep}
use Rattle.network.specs.Laws.{LawsHold}
use Rattle.network.specs.Readings.{Readings}
use Rattle.network.specs.Walks.{network_of, Solved}
use Rattle.walk_test.specs.declared.findings.Finding.{Finding}
use Rattle.walk_test.specs.declared.findings.Finding.TheVariants.{WalksClose, SomeWalkFails}
use Rattle.walk_test.specs.declared.findings.Misfit.{Misfit}
use Rattle.walk_test.specs.Potentials.{potential_at}
use Rattle.walk_test.specs.Tested.{Tested}
use Rattle.checking.specs.declared.verdicts.Verdict.TheVariants.{Holds, Row as RowFails}
use Rattle.checking.specs.Checked.{judge_check, Checked}
use Rattle.checking.proofs.Fitting.{accepted, one_each}
use Rattle.checking.proofs.Filling.{agreeing, filling}

module _ {G : Type 0} (𝓖 : Group G) where
  -- the walk test's answer, told of the netlist's own rows
  told : (rows own : List (Row ℕ)) (values old new : List G) (found : Result Finding Misfit) (finding : Finding) → rows ≡ own → found ≡ Ok finding → Tested 𝓖 rows (network_of 𝓖 rows values) old new found → Tested 𝓖 own (network_of 𝓖 own values) old new (Ok finding)
  told rows own values old new found finding same is tested =
      subst₂ (λ (rs : List (Row ℕ)) (f : Result Finding Misfit). Tested 𝓖 rs (network_of 𝓖 rs values) old new f) same is tested

  -- the potentials are cleared, and then the walk test writes them
  module _ (b : Netlist) (sound : Sound b) (r : Readings G) (old cleared new : List G) (fit : Ok tt ≡ answer {X = Unit {0}} (judge_check b r (length old)) tt) (kept : length cleared ≡ length old)
      (laws : LawsHold 𝓖 b.laws r (length b.laws)) (nodes : NodesKeep 𝓖 b.rows r.values (length b.domains))
      (rows : List (Row ℕ)) (same : rows ≡ b.rows) (found : Result Finding Misfit) (tested : Tested 𝓖 rows (network_of 𝓖 rows r.values) cleared new found) where
    pub agree : found ≡ Ok WalksClose → Checked 𝓖 b r old new (Ok Holds)
    agree is =
        let t = told rows b.rows r.values cleared new found WalksClose same is tested in
        let count = t.1 ∙ kept ∙ one_each b r (length old) fit in
        let solves = subst (λ (n : ℕ). Solved 𝓖 (network_of 𝓖 b.rows r.values) (n + 1) (length b.rows) (potential_at 𝓖 new)) count t.2 in
        (accepted _ fit, t.1 ∙ kept, agreeing 𝓖 b sound r new laws nodes solves, filling 𝓖 b sound r new laws nodes solves)

    pub row_fails : (k : ℕ) → found ≡ Ok (SomeWalkFails k) → Checked 𝓖 b r old new (Ok (RowFails k))
    row_fails k is =
        let t = told rows b.rows r.values cleared new found (SomeWalkFails k) same is tested in
        (accepted _ fit, t.1 ∙ kept, (laws, nodes, t.2.0), t.2.1)
