-- What an assembly tells of its plan.
use Rattle.std.proofs.Common.{◌≡◌, ℕ, ◌+◌, List, [], ◌∷◌, ◌++◌, length, Some, None, refl, ap, ◌∙◌, arith}
use Rattle.std.specs.List.{slice_get}
use Rattle.std.specs.Option.{IsSome}
use Rattle.netlist.specs.declared.domains.Domain.{Domain}
use Rattle.netlist.specs.Netlist.{Netlist}
use Rattle.draft.specs.Rules.{domain_of}
use Rattle.refusal.specs.Tests.{Tests, first_of}
use Rattle.refusal.proofs.Tables.{passed_over}
use Rattle.plan_judging.specs.declared.refusals.PlaceRefusal.{PlaceRefusal}
use Rattle.assembly.specs.declared.plans.Size.{Size}
use Rattle.assembly.specs.Meaning.{Meaning, void, plan, Proper, size_of, domains_of}
use Rattle.assembly.proofs.Nth.{nth_append_right}
use Rattle.place.specs.Parts.{plan_of, judge_void_ends}
use Rattle.place.specs.Place.{node_tests, domain_tests, drawn_tests, end_tests}

-- the tests of two nodes at ends of these domains
abbrev pub two_tests : List ℕ → ℕ → ℕ → Domain → Domain → Tests PlaceRefusal
two_tests domains first second d e =
    (node_tests domains 0 first ++ node_tests domains 1 second)
    ++ (domain_tests (domain_of domains first) d 0 ++ domain_tests (domain_of domains second) e 1)

pub inner_at : (m : Meaning) (j : ℕ) → Proper m → slice_get (domains_of m) (2 + j) ≡ slice_get (plan_of m).inner j
inner_at void j proper = refl
inner_at (plan p) j proper =
    nth_append_right p.ends p.inner (2 + j) (omega (arith, proper.two_ends)) ∙ ap (slice_get p.inner) (omega (arith, proper.two_ends))

-- the tests of the ends, of an assembly that tells their domains
two_ends : (ends inner : List Domain) (domains : List ℕ) (first second : ℕ) (d e : Domain) → length ends ≡ 2 → slice_get (ends ++ inner) 0 ≡ Some d → slice_get (ends ++ inner) 1 ≡ Some e → first_of (drawn_tests domains 0 (first ∷ second ∷ []) ++ end_tests domains 0 ends (first ∷ second ∷ [])) ≡ first_of (two_tests domains first second d e)
two_ends [] inner domains first second d e two h k = absurd (omega (arith, two))
two_ends (x ∷ []) inner domains first second d e two h k = absurd (omega (arith, two))
two_ends (x ∷ y ∷ []) inner domains first second d e two h k =
    let one : x ≡ d = cc in
    let other : y ≡ e = cc in
    λ i. first_of (two_tests domains first second (one i) (other i))
two_ends (x ∷ y ∷ z ∷ ends) inner domains first second d e two h k = absurd (omega (arith, two))

ends_told : (b : Netlist) (first second : ℕ) (m : Meaning) (d e : Domain) → Proper m → slice_get (domains_of m) 0 ≡ Some d → slice_get (domains_of m) 1 ≡ Some e → judge_void_ends b (first ∷ second ∷ []) m ≡ first_of (two_tests b.domains first second d e)
ends_told b first second void d e proper h k = let z : ◌≡◌ {A = ℕ} 0 1 = cc in absurd (omega arith)
ends_told b first second (plan p) d e proper h k = two_ends p.ends p.inner b.domains first second d e proper.two_ends h k

-- once both nodes are drawn, their domains are left to test
pub ends_left : (b : Netlist) (first second : ℕ) (m : Meaning) (d e : Domain) → Proper m → slice_get (domains_of m) 0 ≡ Some d → slice_get (domains_of m) 1 ≡ Some e → first_of (node_tests b.domains 0 first) ≡ None → first_of (node_tests b.domains 1 second) ≡ None → judge_void_ends b (first ∷ second ∷ []) m ≡ first_of (domain_tests (domain_of b.domains first) d 0 ++ domain_tests (domain_of b.domains second) e 1)
ends_left b first second m d e proper h k one other =
    let left = domain_tests (domain_of b.domains first) d 0 ++ domain_tests (domain_of b.domains second) e 1 in
    ends_told b first second m d e proper h k
    ∙ passed_over (node_tests b.domains 0 first) (node_tests b.domains 1 second ++ left) one
    ∙ passed_over (node_tests b.domains 1 second) left other

-- an assembly that has a size has two ends
two_there : (ends inner : List Domain) → length ends ≡ 2 → IsSome (slice_get (ends ++ inner) 0) × IsSome (slice_get (ends ++ inner) 1)
two_there [] inner two = absurd (omega (arith, two))
two_there (d ∷ []) inner two = absurd (omega (arith, two))
two_there (d ∷ e ∷ ends) inner two = (refl, refl)

pub ends_there : (m : Meaning) (size : Size) → Proper m → size_of m ≡ Some size → IsSome (slice_get (domains_of m) 0) × IsSome (slice_get (domains_of m) 1)
ends_there void size proper h = let z : ◌≡◌ {A = ℕ} 0 1 = cc in absurd (omega arith)
ends_there (plan p) size proper h = two_there p.ends p.inner proper.two_ends
