-- A check that begins has what the walk test asks for.
use Rattle.std.proofs.Common.{◌≡◌, ℕ, ◌+◌, ◌<◌, false, not, List, length, Some, None, Option, Result, Ok, Err, refl, ◌∙◌, sym, subst₂, arith}
use Rattle.std.specs.Result.{IsOk}
use Rattle.std.proofs.lemmas.Bool.{cond-false, le-ltb, true≢false}
use Rattle.std.proofs.lemmas.Bool.Decides.{nat_tests}
use Rattle.std.proofs.lemmas.List.Quantifiers.{position-Some}
use Rattle.quantity.specs.Group.{Group}
use Rattle.checking.specs.declared.refusals.CheckRefusal.{CheckRefusal}
use Rattle.netlist.specs.declared.rows.Row.{Row}
use Rattle.netlist.specs.declared.rows.Row.TheVariants.{Branch, Earth}
use Rattle.netlist.specs.Limits.{most_nodes}
use Rattle.netlist.specs.Netlist.{Netlist}
use Rattle.refusal.specs.Tests.{answer}
use Rattle.netlist.specs.Sound.{Sound}
use Rattle.network.specs.Readings.{Readings}
use Rattle.network.specs.Walks.{Network, row_at, no_row, tail_of, head_of}
use Rattle.readings.proofs.Drawing.{sound_drawn}
use Rattle.walk_test.specs.Drawn.{first_undrawn, undrawn, judged}
use Rattle.netlist.specs.Rows.{stands_on}
use Rattle.walk_test.specs.declared.findings.Finding.{Finding}
use Rattle.walk_test.specs.declared.findings.Misfit.{Misfit}
use Rattle.walk_test.specs.Tested.{Tested}
use Rattle.checking.specs.Checked.{judge_check}

-- nothing is refused
pub accepted : (judged : Option CheckRefusal) → Ok tt ≡ answer {X = Unit {0}} judged tt → judged ≡ None
accepted None e = refl
accepted (Some why) e = cc

each_node : {G : Type 0} (b : Netlist) (r : Readings G) (potentials : ℕ) → judge_check b r potentials ≡ None → potentials ≡ length b.domains
each_node b r potentials e = grind (arith, nat_tests)

-- so there is a potential for each node
pub one_each : {G : Type 0} (b : Netlist) (r : Readings G) (potentials : ℕ) → Ok tt ≡ answer {X = Unit {0}} (judge_check b r potentials) tt → potentials ≡ length b.domains
one_each b r potentials e = each_node b r potentials (accepted _ e)

ends_drawn : (n : ℕ) (row : Row ℕ) → (tail_of row < n + 1) × (head_of row < n + 1) → not (stands_on n row) ≡ false
ends_drawn n (Branch flow across first second) e = grind (arith, nat_tests, e.0, e.1)
ends_drawn n (Earth flow across node) e = grind (arith, nat_tests, e.0)

module _ (b : Netlist) (sound : Sound b) where
  all_drawn : (found : Option ℕ) → first_undrawn b.rows (length b.domains) ≡ found → undrawn found ≡ Ok tt
  all_drawn None e = refl
  all_drawn (Some j) e =
      let n = length b.domains in
      let first = position-Some (λ row. not (stands_on n row)) b.rows j no_row e in
      absurd (true≢false (sym first.1 ∙ ends_drawn n (row_at b.rows j) (sound_drawn b sound j first.0)))

  sound_judged : judged b.rows (length b.domains) ≡ Ok tt
  sound_judged = cond-false _ _ _ (le-ltb most_nodes (length b.domains) sound.within.nodes) ∙ all_drawn _ refl

  pub walks_begin : {G : Type 0} (𝓖 : Group G) (rows : List (Row ℕ)) (R : Network G) (old new : List G) (found : Result Finding Misfit) → rows ≡ b.rows → length old ≡ length b.domains → Tested 𝓖 rows R old new found → IsOk found
  walks_begin 𝓖 rows R old new (Ok finding) same count tested = refl
  walks_begin 𝓖 rows R old new (Err why) same count tested =
      let judged_so : judged rows (length old) ≡ Ok tt = subst₂ (λ (rs : List (Row ℕ)) (n : ℕ). judged rs n ≡ Ok tt) (sym same) (sym count) sound_judged in
      cc
