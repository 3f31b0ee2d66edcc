use Rattle.std.proofs.Common.{◌≡◌, ◌+◌, length, slice_index, subst, arith, rules}
use Rattle.network.proofs.Refuting.{refuted_from}
use Rattle.network.proofs.Settling.{settled_closes, settled_solves}
use Rattle.walk_test.specs.Joining.{SettledBy}
use Rattle.walk_test.specs.Potentials.{potential_at}
use Rattle.walk_test.specs.Tested.{network_with}
use Rattle.walk_test.proofs.testing.take_rows.Goals as goal

pub loop-k-init : goal.loop-k-init
loop-k-init g c = c.start.ensures _

pub returns-then-not-join : goal.returns-then-not-join
returns-then-not-join g c =
    let l = c.loop-k in
    let 𝓖 = g.K.Quantity.group in
    let R = network_with c.args.rows.now (g.A.Across.reading c.args.across.now) in
    let close = settled_closes 𝓖 R (length l.potentials + 1) l.k (slice_index l.labels) (potential_at 𝓖 l.potentials) l.invariant in (
      refuted_from 𝓖 R (length c.args.rows.now) l.k c.loop-k-test.true close c.if-not-join.ensures,
      search rules,
    )

pub returns : goal.returns
returns g c =
    let l = c.loop-k in
    let 𝓖 = g.K.Quantity.group in
    let R = network_with c.args.rows.now (g.A.Across.reading c.args.across.now) in
    let all : l.k ≡ length c.args.rows.now = omega arith in
    settled_solves 𝓖 R (length l.potentials + 1) (length c.args.rows.now) (slice_index l.labels) (potential_at 𝓖 l.potentials)
    (subst (λ k. SettledBy 𝓖 R k l.labels l.potentials) all l.invariant) (λ j lt. let ends = c.requires.drawn j lt in (omega arith, omega arith))
