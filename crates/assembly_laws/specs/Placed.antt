-- A series that is placed, and its parts placed one by one.
use Rattle.std.specs.Prelude.{◌≡◌, ℕ, ◌+◌, ◌<◌, ◌↔◌, [], ◌∷◌, map, length, None, slice_index}
use Rattle.likeness.specs.Alike.{Alike}
use Rattle.netlist.specs.Domains.{domain_number}
use Rattle.netlist.specs.Netlist.{Netlist, with_nodes}
use Rattle.draft.specs.Rules.{judge_node}
use Rattle.netlist.specs.Sound.{Sound}
use Rattle.assembly.specs.Meaning.{Meaning, void, plan, Proper, domains_of}
use Rattle.series.specs.Series.{series}
use Rattle.place.specs.Place.{judge_place, with_assembly}
use Rattle.assembly_laws.specs.Swapped.{swapped}
use Rattle.assembly_laws.specs.ButNodes.{SameButNodes}

-- the domain of the joint: that of the first part's second end
abbrev pub joint_domain : Meaning → ℕ
joint_domain m = slice_index (map domain_number (domains_of m)) 1

abbrev pub inner_count : Meaning → ℕ
inner_count void = 0
inner_count (plan a) = length a.inner

-- A netlist on which the joint is drawn first, behind all that was drawn; then the one part is placed
-- between p and the joint, and the other between the joint and q.
abbrev pub with_joint : Netlist → Meaning → Netlist
with_joint b m = with_nodes b (joint_domain m ∷ [])

abbrev pub with_front : Netlist → Meaning → ℕ → Netlist
with_front b m p = with_assembly (with_joint b m) m (p ∷ length b.domains ∷ [])

abbrev pub with_both : Netlist → Meaning → Meaning → ℕ → ℕ → Netlist
with_both b m n p q = with_assembly (with_front b m p) n (length b.domains ∷ q ∷ [])

-- The joint is the last node of the series, and here it comes before the parts' inner nodes.
abbrev pub joint_before : Netlist → Meaning → Meaning → ℕ → ℕ
joint_before b m n = swapped (length b.domains) (inner_count m + inner_count n) 1

abbrev pub joint_behind : Netlist → Meaning → Meaning → ℕ → ℕ
joint_behind b m n = swapped (length b.domains) 1 (inner_count m + inner_count n)

-- None of these calls is refused.
pub record FitOneByOne (b : Netlist) (m n : Meaning) (p q : ℕ) : Type 0 where
  pub joint : judge_node b (joint_domain m) ≡ None
  pub front : judge_place (with_joint b m) m (p ∷ length b.domains ∷ []) ≡ None
  pub back : judge_place (with_front b m p) n (length b.domains ∷ q ∷ []) ≡ None

-- THEOREM: between two nodes that are drawn, a series fits exactly where its parts fit one by one
abbrev pub SeriesFitsAsItsParts : Type 0
SeriesFitsAsItsParts =
    (b : Netlist) (m n : Meaning) → Proper m → Proper n → (p q : ℕ) → p < length b.domains → q < length b.domains
    → ((judge_place b (series m n) (p ∷ q ∷ []) ≡ None) ↔ FitOneByOne b m n p q)

-- THEOREM: and where it fits, both draw the same, but for the nodes' numbers; so the netlists are alike
abbrev pub SeriesIsDrawnAsItsParts : Type 0
SeriesIsDrawnAsItsParts =
    (b : Netlist) → Sound b → (m n : Meaning) → Proper m → Proper n → (p q : ℕ)
    → judge_place b (series m n) (p ∷ q ∷ []) ≡ None
    → SameButNodes (joint_before b m n) (joint_behind b m n)
    (with_assembly b (series m n) (p ∷ q ∷ [])) (with_both b m n p q)
    × Alike (with_assembly b (series m n) (p ∷ q ∷ [])) (with_both b m n p q)
