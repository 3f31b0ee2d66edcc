-- Two parts side by side, and the domains of their nodes.
use Rattle.std.proofs.Common.{◌≡◌, ◌++◌, drop, refl, ap, ◌∙◌, append_assoc, arith}
use Rattle.std.proofs.lemmas.List.{length-append}
use Rattle.assembly.specs.Meaning.{Meaning, domains_of}
use Rattle.layers.specs.declared.halves.Halves.{Halves}
use Rattle.layers.specs.Joined.{joined_domains}
use Rattle.layers.specs.Two.{Halved}
use Rattle.layers.proofs.Ends.{by_ends}
use Rattle.layers.proofs.Halving.{PartsLayout, by_halves}
use Rattle.side_by_side.specs.Beside.{in_parallel, meet, beside, front_place, back_place}

pub parallel_layout : PartsLayout 0 in_parallel front_place back_place
parallel_layout = record {
  ends = λ a b p q. p.two_ends;
  inner = λ a b p q. omega (arith, length-append a.inner b.inner);
  variables = λ a b. refl;
  rows = λ a b. refl;
  laws = λ a b. refl;
}

-- the ends are the first part's, and the inner nodes of both come behind them
pub domains_joined : {m n : Meaning} {h : Halves} → Halved meet in_parallel m n h → joined_domains m n ≡ domains_of (beside m n)
domains_joined =
    by_halves meet in_parallel (λ m n w x y z. joined_domains m n ≡ domains_of w)
    (λ a b p q s.
    ap (λ js. a.ends ++ a.inner ++ js) (by_ends (λ ys. drop 2 (ys ++ b.inner) ≡ b.inner) (λ u v. refl) b.ends q.two_ends)
    ∙ append_assoc a.ends a.inner b.inner)
