-- A line has one fault column.
use Rattle.std.proofs.Common.{◌≡◌, ℕ, ◌-◌, ◌<◌, ◌≤◌, ◌++◌, take, drop, sym, ap, ◌∙◌, subst, ⊎_elim, append_assoc, arith, take-append-drop}
use Rattle.std.proofs.lemmas.List.{take-take}
use Rattle.std.proofs.lemmas.Bool.{cases_order}
use Rattle.text.specs.Grammar.{Bytes, Allowed}
use Rattle.text.specs.Faults.{Begins, FaultAt, OneColumn}

-- what begins with more begins with less
shorter : (line : Bytes) (m n : ℕ) → m ≤ n → Begins Allowed (take n line) → Begins Allowed (take m line)
shorter line m n h b =
    let front : take n line ≡ take m line ++ drop m (take n line) = sym (take-append-drop m (take n line)) ∙ ap (λ (x : Bytes). x ++ drop m (take n line)) (take-take m n line h) in (
      drop m (take n line) ++ b.0,
      subst Allowed (ap (λ (x : Bytes). x ++ b.0) front ∙ append_assoc (take m line) (drop m (take n line)) b.0) b.1,
    )

not_before : (line : Bytes) (c d : ℕ) → FaultAt Allowed line c → FaultAt Allowed line d → c < d → ⊥
not_before line c d f g h = let w = g.within in f.stops (omega arith) (shorter line c (d - 1) (omega arith) g.begins)

pub one_column : OneColumn
one_column line c d f g = ⊎_elim (λ e. e) (⊎_elim (λ h. absurd (not_before line c d f g h)) (λ h. absurd (not_before line d c g f h))) (cases_order c d)
