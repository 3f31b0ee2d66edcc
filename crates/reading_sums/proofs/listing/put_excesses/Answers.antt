use Rattle.std.proofs.Common.{ap, ◌∙◌, arith}
use Rattle.network.specs.Flows.{leaves, only}
use Rattle.network.specs.Walks.{read, row_at}
use Rattle.reading_sums.proofs.Adding.{flow_more}
use Rattle.reading_sums.proofs.listing.put_excesses.Goals as goal

pub loop-row-preserved : goal.loop-row-preserved
loop-row-preserved g c =
    let 𝓖 = g.K.Quantity.group in
    let values = c.args.values.now in
    let row = row_at c.args.rows.now c.loop-row.row-index in
    record {
      long = c.add_row.ensures.long ∙ c.loop-row.invariant.long;
      so_far = λ n l.
          flow_more 𝓖 values (only n) c.args.rows.now c.loop-row.row-index _ _ _ c.loop-row-test.true
          (c.loop-row.invariant.so_far n (omega (arith, l, c.add_row.ensures.long)))
          (ap (leaves 𝓖 (only n) row) (c.reading.ensures ∙ ap (read 𝓖 values) c.flow.ensures)) (c.add_row.ensures.added n l);
    }
