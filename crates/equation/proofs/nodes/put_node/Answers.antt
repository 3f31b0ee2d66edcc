use Rattle.std.proofs.Common.{◌+◌, ◌≤◌, List, [], ◌∷◌, length, take, set, sym, ap, ◌∙◌, arith}
use Rattle.std.proofs.lemmas.List.{length-append}
use Rattle.netlist.specs.declared.terms.Term.{Term}
use Rattle.netlist.specs.Buffers.{over}
use Rattle.equation.specs.Equations.{node_sum}
use Rattle.equation.proofs.Overs.{over_push}
use Rattle.equation.proofs.Summing.{sum_more, sum_same, sum_room}
use Rattle.equation.proofs.nodes.put_node.Goals as goal
use Rattle.equation.proofs.nodes.put_node.Goals.{in-Some, in_default}

-- there is a place for the row's term
room : (c : goal.In-Some) → c.loop-row.count + 1 ≤ length c.args.terms.now
room c =
    omega (arith, sum_room c.args.rows.now c.args.node c.loop-row.row-index _ c.loop-row-test.true c.in-Some.term (sym c.term_at.ensures ∙ c.in-Some.is))

pub bounds-terms-count : goal.bounds-terms-count
bounds-terms-count c = omega (arith, room c)

pub loop-row-preserved : goal.loop-row-preserved
loop-row-preserved c =
    let rows = c.args.rows.now in
    let n = c.args.node in
    let old = c.args.terms.now in
    let i = c.loop-row.row-index in
    let inv = c.loop-row.invariant in
    let sum = node_sum (take i rows) n in
    elim c.match-term_at.branch [
      | in-Some w ↦
          let is = sym c.term_at.ensures ∙ w.in-Some.is in
          let more = sum_more rows n i _ c.loop-row-test.true w.in-Some.term is in
          let fits = sum_room rows n i _ c.loop-row-test.true w.in-Some.term is in (
            omega (arith, w.count-is, ap length more, length-append sum (w.in-Some.term ∷ [])),
            w.terms-is ∙ (λ k. set (inv.1 k) (inv.0 k) w.in-Some.term) ∙ over_push old sum w.in-Some.term (omega arith) ∙ ap (over old) (sym more),
          )
      | in_default w ↦
          let same = sum_same rows n i _ c.loop-row-test.true (sym c.term_at.ensures ∙ w.in_default.is) in (
            w.count-is ∙ inv.0 ∙ ap (λ (xs : List Term). length xs) (sym same),
            w.terms-is ∙ inv.1 ∙ ap (over old) (sym same),
          )
    ]
