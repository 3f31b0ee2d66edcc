-- A branch brings its flow out of its first node, and the flow's negation out of its second.
use Rattle.std.proofs.Common.{◌≡◌, ℕ, Bool, true, false, cond, List, length, ap, ◌∙◌, arith}
use Rattle.quantity.specs.Group.{Group}
use Rattle.quantity.proofs.Groups.{right}
use Rattle.netlist.specs.declared.rows.Row.TheVariants.{Branch}
use Rattle.network.specs.Flows.{crossing, only}
use Rattle.network.specs.Walks.{read}
use Rattle.reading_sums.specs.Excesses.{AddedAt, AddedRow}

module _ {G : Type 0} (𝓖 : Group G) where
  both : (start end : Bool) (s x : G) → 𝓖.sum (𝓖.sum s (cond start x 𝓖.zero)) (cond end (𝓖.negation x) 𝓖.zero) ≡ 𝓖.sum s (crossing 𝓖 start end x)
  both true true s x = 𝓖.associative s x (𝓖.negation x) ∙ ap (𝓖.sum s) (𝓖.inverse x)
  both true false s x = right 𝓖 (𝓖.sum s x)
  both false true s x = ap (λ t. 𝓖.sum t (𝓖.negation x)) (right 𝓖 s)
  both false false s x = right 𝓖 (𝓖.sum s 𝓖.zero)

  pub branch_added : (flow across first second : ℕ) (x : G) (old mid new : List G) → length new ≡ length mid → AddedAt 𝓖 first x old mid → AddedAt 𝓖 second (𝓖.negation x) mid new → AddedRow 𝓖 (Branch flow across first second) x old new
  branch_added flow across first second x old mid new long one two n l =
      two n l ∙ ap (λ s. 𝓖.sum s (cond (only n second) (𝓖.negation x) 𝓖.zero)) (one n (omega (arith, l, long))) ∙ both (only n first) (only n second) (read 𝓖 old n) x
