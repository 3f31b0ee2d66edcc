use Rattle.std.proofs.Common.{length, ap, arith}
use Rattle.std.specs.List.{sum_by}
use Rattle.netlist.specs.Netlist.{term_count}
use Rattle.equation.specs.Writing.{row_size}
use Rattle.equation.proofs.Counting.{terms_are, listing_same}
use Rattle.equation.proofs.Sizing.{few}
use Rattle.equation.proofs.listing.size.Goals as goal

pub overflow_add-result : goal.overflow_add-result
overflow_add-result c =
    let w = c.rows-rows.ensures.sound.within in
    omega (arith, c.term_count.ensures, c.row_sizes.ensures, few c.rows-rows.result.now, ap term_count c.laws.ensures, ap length c.rows-rows.ensures.value, w.terms, w.rows)

pub returns : goal.returns
returns c =
    let s = c.rows-rows.ensures.sound in
    listing_same _ _
    (omega (arith, c.term_count.ensures, c.row_sizes.ensures, terms_are c.args.sheet.now s, ap term_count c.laws.ensures, ap (sum_by row_size) c.rows-rows.ensures.value))
    c.count.ensures
