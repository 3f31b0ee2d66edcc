use Rattle.std.proofs.Common.{length, filter, sym, ap, ◌∙◌, arith}
use Rattle.std.proofs.lemmas.List.{at_drop_all}
use Rattle.parts.specs.Single.{is_counted}
use Rattle.parts.proofs.Kept.{kept_drop_yes, kept_drop_no}
use Rattle.parts.proofs.single.counted_len.Goals as goal
use Rattle.parts.proofs.single.counted_len.Goals.{then-is_counted, else-is_counted}

pub loop-x-preserved : goal.loop-x-preserved
loop-x-preserved c =
    elim c.if-is_counted.branch [
      | then-is_counted w ↦
          let e = kept_drop_yes is_counted c.args.terms.now _ _ c.loop-x-test.true (sym c.is_counted.ensures ∙ w.if-is_counted.true) in
          (omega (arith, w.n-is), omega (arith, w.n-is, ap length e))
      | else-is_counted w ↦
          let e = kept_drop_no is_counted c.args.terms.now _ _ c.loop-x-test.true (sym c.is_counted.ensures ∙ w.if-is_counted.false) in
          (omega (arith, w.n-is), omega (arith, w.n-is, ap length e))
    ]

pub returns : goal.returns
returns c = omega (arith, ap length (at_drop_all (filter is_counted) c.args.terms.now _ c.loop-x-test.false))
