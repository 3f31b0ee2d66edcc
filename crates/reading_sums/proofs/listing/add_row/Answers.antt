use Rattle.reading_sums.proofs.Parts.{branch_added}
use Rattle.reading_sums.proofs.listing.add_row.Goals as goal

pub returns-in-Branch-clause-added : goal.returns-in-Branch-clause-added
returns-in-Branch-clause-added g c =
    let 𝓖 = g.K.Quantity.group in
    let b = c.in-Branch in
    let second = rw c.negation.ensures at c.add_at-in-Branch.ensures.added in
    rw b.is (branch_added 𝓖 b.flow b.across b.first b.second c.args.flow c.args.sums.now c.add_at.new.sums c.add_at-in-Branch.new.sums c.add_at-in-Branch.auto.sums c.add_at.ensures.added second)
