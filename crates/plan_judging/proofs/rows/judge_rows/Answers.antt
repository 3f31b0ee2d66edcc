use Rattle.std.proofs.Common.{◌≡◌, ℕ, ◌+◌, map, take, length, [], None, Some, sym, subst, ap, ◌∙◌, arith, List}
use Rattle.std.specs.List.{slice_get}
use Rattle.std.proofs.lemmas.List.{length-set}
use Rattle.netlist.specs.declared.rows.Row.{Row}
use Rattle.netlist.specs.Domains.{domain_number}
use Rattle.netlist.specs.Flags.{Marked, raised, flag_up}
use Rattle.netlist.specs.Netlist.{Netlist}
use Rattle.draft.specs.Rules.{row_tests, table_row}
use Rattle.refusal.specs.Tests.{first_of}
use Rattle.draft.proofs.Tables.{row_fresh}
use Rattle.netlist.proofs.Taking.{marked_row}
use Rattle.assembly.specs.Meaning.{domains_of, rows_of}
use Rattle.plan_judging.specs.Alone.{judge_rows}
use Rattle.plan_judging.proofs.Flagged.{by_flags}
use Rattle.plan_judging.proofs.Turns.{with_them, row_passes, row_stops, take_place}
use Rattle.plan_judging.proofs.rows.judge_rows.Goals as goal

pub returns-in-Err : goal.returns-in-Err
returns-in-Err g c =
    let m = g.A.Assembly.meaning c.args.part.now in
    let ds = map domain_number (domains_of m) in
    let bare : Netlist = record { domains = ds; variables = length c.fill.new.self; rows = []; laws = [] } in
    let inv = c.loop-k.invariant in
    let k = c.loop-k.k in
    let row = c.from-row.result in
    let at : slice_get (rows_of m) k ≡ Some row = cc in
    let read : first_of (table_row (with_them bare (take k (rows_of m))) row) ≡ Some c.in-Err.inner =
    by_flags ds (length c.fill.new.self) c.loop-k.taken (take k (rows_of m)) row inv.marked
    ∙ ap (λ (n : ℕ). first_of (row_tests ds n (flag_up c.loop-k.taken) row)) (sym inv.long)
    ∙ c.in-Err.ensures in
    ap (λ (n : ℕ). judge_rows (record { domains = ds; variables = n; rows = []; laws = [] }) 0 (rows_of m)) (sym c.fill.ensures.len)
    ∙ sym inv.judged
    ∙ row_stops bare (rows_of m) k row at c.in-Err.inner read

pub loop-k-preserved : goal.loop-k-preserved
loop-k-preserved g c =
    let m = g.A.Assembly.meaning c.args.part.now in
    let ds = map domain_number (domains_of m) in
    let bare : Netlist = record { domains = ds; variables = length c.fill.new.self; rows = []; laws = [] } in
    let inv = c.loop-k.invariant in
    let k = c.loop-k.k in
    let taken = c.loop-k.taken in
    let row = c.from-row.result in
    let at : slice_get (rows_of m) k ≡ Some row = cc in
    let drawn = with_them bare (take k (rows_of m)) in
    let read : first_of (table_row drawn row) ≡ None =
    by_flags ds (length c.fill.new.self) taken (take k (rows_of m)) row inv.marked
    ∙ ap (λ (n : ℕ). first_of (row_tests ds n (flag_up taken) row)) (sym inv.long)
    ∙ c.in_default.ensures in
    let f = row_fresh drawn row read in
    let marked : Marked (raised taken row) (take (k + 1) (rows_of m)) =
    subst (λ (rs : List (Row ℕ)). Marked (raised taken row) rs) (sym (take_place (rows_of m) k row at))
    (marked_row taken (take k (rows_of m)) row (omega (arith, f.flow_drawn)) (omega (arith, f.across_drawn)) f.apart f.flow_free f.across_free inv.marked) in
    record {
      judged = row_passes bare (rows_of m) k row at read ∙ inv.judged;
      marked = λ v. simp (c.flow.ensures, c.across.ensures) (marked v);
      long = length-set _ _ _ ∙ length-set taken c.flow.result _ ∙ inv.long;
    }
