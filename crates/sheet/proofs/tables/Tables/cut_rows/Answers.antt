use Rattle.std.proofs.Common.{List, ℕ, length, refl, sym, ap, ◌∙◌, arith}
use Rattle.std.proofs.lemmas.List.{take_all}
use Rattle.netlist.specs.declared.rows.Row.{Row}
use Rattle.sheet.proofs.Cutting.{take_again}
use Rattle.sheet.proofs.tables.Tables.cut_rows.Goals as goal

pub loop-self-init : goal.loop-self-init
loop-self-init c = refl

pub loop-self-preserved : goal.loop-self-preserved
loop-self-preserved c =
    let b = c.loop-self.self in
    let test = c.loop-self-test.true in
    rw c.cut_row.ensures
    (ap (λ (rows : List (Row ℕ)). record b { rows = rows }) (take_again c.args.rows _ b.rows (omega (arith, ap length c.rows.ensures.value))) ∙ c.loop-self.invariant)

pub returns : goal.returns
returns c =
    let b = c.loop-self.self in
    ap (λ (rows : List (Row ℕ)). record b { rows = rows }) (sym (take_all c.args.rows b.rows (omega (arith, ap length c.rows.ensures.value)))) ∙ c.loop-self.invariant
