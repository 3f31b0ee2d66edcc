-- The numbers of domains are those that name one.
use Rattle.std.proofs.Common.{◌≡◌, true, false, refl}
use Rattle.std.proofs.lemmas.Bool.{not_from_false}
use Rattle.netlist.specs.declared.domains.Domain.{Domain}
use Rattle.netlist.specs.declared.domains.Domain.TheVariants.{Electrical, Rotational, Translational, Hydraulic}
use Rattle.netlist.specs.Domains.{domain_number, no_domain}
use Rattle.netlist.specs.Sound.{is_domain}

pub domain_drawn : (d : Domain) → no_domain (domain_number d) ≡ false
domain_drawn Electrical = refl
domain_drawn Rotational = refl
domain_drawn Translational = refl
domain_drawn Hydraulic = refl

pub domain_named : (d : Domain) → is_domain (domain_number d) ≡ true
domain_named d = not_from_false _ (domain_drawn d)
