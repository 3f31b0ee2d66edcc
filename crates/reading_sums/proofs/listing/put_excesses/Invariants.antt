use Rattle.std.proofs.Common.{◌≡◌, length, take}
use Rattle.reading_sums.specs.Excesses.{AreExcesses}
use Rattle.reading_sums.proofs.listing.put_excesses.Given as goal

abbrev pub invariant-loop-row : goal.invariant-loop-row
invariant-loop-row g l = record {
  long : length l.sums ≡ length l.fn.sums;
  so_far : AreExcesses g.K.Quantity.group (take l.row-index l.rows) l.values l.sums;
}
