-- The numbers of the domains.
use Rattle.std.specs.Prelude.{◌≡◌, ℕ, Bool, true, ◌||◌, nat_lt, Result, MatchResult}
use Rattle.netlist.specs.declared.domains.Domain.{Domain}
use Rattle.netlist.specs.declared.domains.NoDomain.{NoDomain}
use Rattle.netlist.specs.declared.domains.Domain.TheVariants.{Electrical, Rotational, Translational, Hydraulic}

abbrev pub domain_number : Domain → ℕ
domain_number Electrical = 1
domain_number Rotational = 2
domain_number Translational = 3
domain_number Hydraulic = 4

-- not the number of a domain
abbrev pub no_domain : ℕ → Bool
no_domain d = nat_lt d 1 || nat_lt 4 d

-- the domain of this number, or that there is none
abbrev pub IsDomainOf : ℕ → Result Domain NoDomain → Type 0
IsDomainOf d answer = MatchResult answer (λ domain. domain_number domain ≡ d) (λ _. no_domain d ≡ true)
