-- What the flags of variables say of the rows.
use Rattle.std.proofs.Common.{◌≡◌, ℕ, Bool, true, false, List, refl, ap, ◌∙◌}
use Rattle.std.specs.Prelude.{nat_lt}
use Rattle.netlist.specs.declared.rows.Row.{Row}
use Rattle.netlist.specs.Flags.{Marked, flag_up}
use Rattle.netlist.specs.Rows.{bit, taken_by}
use Rattle.draft.specs.Rules.{row_tests}
use Rattle.refusal.specs.Tests.{first_of}

told : (b : Bool) → nat_lt 0 (bit b) ≡ b
told true = refl
told false = refl

-- a row is judged alike by the flags and by the rows
pub by_flags : (ds : List ℕ) (n : ℕ) (taken : List Bool) (rows : List (Row ℕ)) (row : Row ℕ) → Marked taken rows → first_of (row_tests ds n (taken_by rows) row) ≡ first_of (row_tests ds n (flag_up taken) row)
by_flags ds n taken rows row h =
    let same : ◌≡◌ {A = ℕ → Bool} (taken_by rows) (flag_up taken) = λ i v. (ap (nat_lt 0) (h v) ∙ told (flag_up taken v)) i in
    ap (λ (f : ℕ → Bool). first_of (row_tests ds n f row)) same
