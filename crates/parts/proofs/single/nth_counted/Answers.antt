use Rattle.std.proofs.Common.{filter, sym, ap, ◌∙◌}
use Rattle.std.specs.List.{slice_get}
use Rattle.std.proofs.lemmas.List.{at_drop_all}
use Rattle.parts.specs.Single.{is_counted}
use Rattle.parts.proofs.Kept.{kept_drop_yes, kept_drop_no, nth_cons_more}
use Rattle.parts.proofs.single.nth_counted.Goals as goal
use Rattle.parts.proofs.single.nth_counted.Goals.{then-is_counted+else-left-eq0, else-is_counted}

pub returns-then-left-eq0 : goal.returns-then-left-eq0
returns-then-left-eq0 c =
    let e = kept_drop_yes is_counted c.args.terms.now _ _ c.loop-x-test.true (sym c.if-is_counted.ensures) in
    rw (e, c.if-left-eq0.true) at c.loop-x.invariant

pub loop-x-preserved : goal.loop-x-preserved
loop-x-preserved c =
    elim c.if-is_counted.branch [
      | then-is_counted+else-left-eq0 w ↦
          let e = kept_drop_yes is_counted c.args.terms.now _ _ c.loop-x-test.true (sym c.is_counted.ensures ∙ w.if-is_counted.true) in
          sym (nth_cons_more _ _ _ w.if-left-eq0.false ∙ ap (slice_get _) (sym w.left-is)) ∙ rw e at c.loop-x.invariant
      | else-is_counted w ↦
          let e = kept_drop_no is_counted c.args.terms.now _ _ c.loop-x-test.true (sym c.is_counted.ensures ∙ w.if-is_counted.false) in
          rw (e, sym w.left-is) at c.loop-x.invariant
    ]

pub returns : goal.returns
returns c = rw (at_drop_all (filter is_counted) c.args.terms.now _ c.loop-x-test.false) at c.loop-x.invariant
