-- When a layer has a plan.
use Rattle.std.specs.Prelude.{ℕ, Bool, false, cond, ◌&&◌, List, take, drop, Some, None, Option, ◌==◌}
use Rattle.std.specs.List.{slice_get}
use Rattle.netlist.specs.declared.domains.Domain.{Domain}
use Rattle.netlist.specs.Domains.{domain_number}
use Rattle.assembly.specs.Meaning.{Meaning, void, plan, Plan, size_in, domains_of, is_small}

-- A layer has this plan if its ends meet and no count is too large; else it is void.
abbrev pub layer_if : Bool → Plan → Meaning
layer_if meet p = cond (meet && is_small (size_in p)) (plan p) void

abbrev pub same_domain : Option Domain → Option Domain → Bool
same_domain None other = false
same_domain (Some d) None = false
same_domain (Some d) (Some e) = domain_number d == domain_number e

-- The domain of a node. The ends are nodes 0 and 1.
abbrev pub domain_at : Meaning → ℕ → Option Domain
domain_at m node = slice_get (domains_of m) node

-- One end of a plan, as the list of its domain.
abbrev pub first_end : Plan → List Domain
first_end p = take 1 p.ends

abbrev pub second_end : Plan → List Domain
second_end p = drop 1 p.ends
