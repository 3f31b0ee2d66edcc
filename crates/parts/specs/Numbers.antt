-- Domains by their numbers.
use Rattle.std.specs.Prelude.{ℕ, cond, Option, ◌==◌}
use Rattle.std.specs.Bool.{then_some}
use Rattle.netlist.specs.declared.domains.Domain.{Domain}
use Rattle.netlist.specs.declared.domains.Domain.TheVariants.{Electrical, Rotational, Translational, Hydraulic}
use Rattle.netlist.specs.Sound.{is_domain}

-- The domain of a number from 1 to 4. Any other number reads as the last domain: whoever uses this asks
-- first whether it is the number of a domain.
abbrev pub domain_at : ℕ → Domain
domain_at n = cond (n == 1) Electrical (cond (n == 2) Rotational (cond (n == 3) Translational Hydraulic))

-- the domain of this number, if there is one
abbrev pub domain_of : ℕ → Option Domain
domain_of n = then_some (is_domain n) (domain_at n)
