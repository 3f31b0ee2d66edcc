-- Two netlists, or two plans, that differ in the numbers of their nodes alone.
use Rattle.std.specs.Prelude.{◌≡◌, ℕ, map, length, slice_index}
use Rattle.netlist.specs.Netlist.{Netlist}
use Rattle.netlist.specs.Renaming.{Renaming, renamed_row}
use Rattle.assembly.specs.Meaning.{Meaning, void, plan, Plan}
use Rattle.layers.specs.Layer.{domain_at}

-- other numbers for nodes, the same for variables
abbrev pub nodes_only : (ℕ → ℕ) → Renaming
nodes_only to = record { node = to; variable = λ v. v }

-- Node n of the one is node `to n` of the other. The rows and laws are the same, in the same order.
pub record SameButNodes (to back : ℕ → ℕ) (b c : Netlist) : Type 0 where
  pub back_to : (n : ℕ) → back (to n) ≡ n
  pub to_back : (n : ℕ) → to (back n) ≡ n
  pub count : length c.domains ≡ length b.domains
  pub domains : (n : ℕ) → slice_index c.domains (to n) ≡ slice_index b.domains n
  pub variables : c.variables ≡ b.variables
  pub rows : c.rows ≡ map (renamed_row (nodes_only to)) b.rows
  pub laws : c.laws ≡ b.laws

-- Node n of the one plan is node `to n` of the other, as above; the ends stay the ends.
pub record PlanButNodes (to back : ℕ → ℕ) (a c : Plan) : Type 0 where
  pub back_to : (n : ℕ) → back (to n) ≡ n
  pub to_back : (n : ℕ) → to (back n) ≡ n
  pub ends : c.ends ≡ a.ends
  pub count : length c.inner ≡ length a.inner
  pub first : to 0 ≡ 0
  pub second : to 1 ≡ 1
  pub domains : (n : ℕ) → domain_at (plan c) (to n) ≡ domain_at (plan a) n
  pub variables : c.variables ≡ a.variables
  pub rows : c.rows ≡ map (renamed_row (nodes_only to)) a.rows
  pub laws : c.laws ≡ a.laws

-- Both are void, or both have plans, which differ in the numbers of their nodes alone.
abbrev pub MeansButNodes : (ℕ → ℕ) → (ℕ → ℕ) → Meaning → Meaning → Type 0
MeansButNodes to back void void = Unit {0}
MeansButNodes to back void (plan c) = ⊥
MeansButNodes to back (plan a) void = ⊥
MeansButNodes to back (plan a) (plan c) = PlanButNodes to back a c
