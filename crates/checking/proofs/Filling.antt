-- The filling of a sound netlist is what solves its rows.
use Rattle.std.proofs.Common.{◌≡◌, ℕ, zero, suc, ◌+◌, ◌<◌, List, length, refl, sym, ap, ◌∙◌, ap₂, subst, add-one, arith}
use Rattle.quantity.specs.Group.{Group, minus}
use Rattle.netlist.specs.Netlist.{Netlist}
use Rattle.netlist.specs.Sound.{Sound}
use Rattle.network.specs.Readings.{Readings}
use Rattle.network.specs.ReadingsAgree.{ReadingsAgree}
use Rattle.network.specs.Flows.{NodesKeep}
use Rattle.network.specs.Laws.{LawsHold}
use Rattle.network.specs.Walks.{Network, network_of, read, Satisfies, Lowest, Grounded, Solved}
use Rattle.network.proofs.Flowing.{sets_keep_as_nodes}
use Rattle.network.proofs.Walking.{potentials_close_walks}
use Rattle.equation.proofs.Counting.{equations_are}
use Rattle.readings.specs.Readings.{EquationsHold}
use Rattle.readings.specs.Agreement.{with_earth}
use Rattle.readings.proofs.Agreeing.{same_vertex, equations_by_part, holds_from}
use Rattle.readings.proofs.Drawing.{sound_drawn}
use Rattle.walk_test.specs.Potentials.{potential_at}
use Rattle.walk_test.proofs.Moving.{node_potential}
use Rattle.checking.specs.Potentials.{GroundedNodes, Filling}

module _ {G : Type 0} (𝓖 : Group G) where
  vertex_same : (ps : List G) (v : ℕ) → potential_at 𝓖 ps v ≡ with_earth 𝓖 (read 𝓖 ps) v
  vertex_same ps zero = refl
  vertex_same ps (suc n) = refl

  module _ (b : Netlist) (sound : Sound b) (r : Readings G) (ps : List G) where
    abbrev R : Network G
    R = network_of 𝓖 b.rows r.values

    abbrev Solves : (ℕ → G) → Type 0
    Solves p = Solved 𝓖 R (length b.domains + 1) (length b.rows) p

    -- zero at the lowest nodes, and at the earth
    grounded_vertices : (q : ℕ → G) → GroundedNodes 𝓖 b r.values q → Grounded 𝓖 R (length b.domains + 1) (length b.rows) (with_earth 𝓖 q)
    grounded_vertices q grounded zero l lowest = refl
    grounded_vertices q grounded (suc n) l lowest = grounded n (omega arith) (subst (Lowest R (length b.rows)) (sym (add-one n)) lowest)

    rows_satisfied : (q : ℕ → G) → EquationsHold 𝓖 b r q → Satisfies 𝓖 R (length b.rows) (with_earth 𝓖 q)
    rows_satisfied q holds j l =
        let parts = equations_by_part 𝓖 b sound r q in
        (parts.row_holds j l).0 (holds (length b.laws + (length b.domains + j)) (omega (arith, equations_are b sound)))

    module _ (laws : LawsHold 𝓖 b.laws r (length b.laws)) (nodes : NodesKeep 𝓖 b.rows r.values (length b.domains)) where
      pub agreeing : Solves (potential_at 𝓖 ps) → ReadingsAgree 𝓖 b r
      agreeing solved = record {
        laws = laws;
        sets = (sets_keep_as_nodes 𝓖 b.rows r.values (length b.domains) (sound_drawn b sound)).1 nodes;
        walks = potentials_close_walks 𝓖 R (length b.rows) (potential_at 𝓖 ps) solved.satisfies;
      }

      pub filling : Solves (potential_at 𝓖 ps) → Filling 𝓖 b r ps
      filling solved = record {
        fits = holds_from 𝓖 b sound r (read 𝓖 ps) laws nodes
            (λ j l. solved.satisfies j l ∙ ap₂ (minus 𝓖) (vertex_same ps (R.tail j)) (vertex_same ps (R.head j)));
        grounded = λ n l lowest. sym (node_potential 𝓖 ps n) ∙ solved.grounded (n + 1) (omega arith) lowest;
        only = λ q holds grounded n l.
            ap (with_earth 𝓖 q) (sym (add-one n))
            ∙ solved.only (with_earth 𝓖 q) (rows_satisfied q holds) (grounded_vertices q grounded) (n + 1) (omega arith)
            ∙ node_potential 𝓖 ps n;
      }

      only_filling : Filling 𝓖 b r ps → (q : ℕ → G) → Satisfies 𝓖 R (length b.rows) q → Grounded 𝓖 R (length b.domains + 1) (length b.rows) q → (v : ℕ) → v < length b.domains + 1 → q v ≡ potential_at 𝓖 ps v
      only_filling filled q fits grounded zero l = grounded 0 (omega arith) (λ u s w. omega arith)
      only_filling filled q fits grounded (suc n) l =
          let earth : q 0 ≡ 𝓖.zero = grounded 0 (omega arith) (λ u s w. omega arith) in
          let holds = holds_from 𝓖 b sound r (λ u. q (u + 1)) laws nodes
          (λ j k. fits j k ∙ ap₂ (minus 𝓖) (same_vertex 𝓖 q earth (R.tail j)) (same_vertex 𝓖 q earth (R.head j))) in
          ap q (sym (add-one n)) ∙ filled.only (λ u. q (u + 1)) holds (λ u k lowest. grounded (u + 1) (omega arith) lowest) n (omega arith)

      -- what is filled is solved
      pub solved : Filling 𝓖 b r ps → Solves (potential_at 𝓖 ps)
      solved filled = record {
        satisfies = λ j l. rows_satisfied (read 𝓖 ps) filled.fits j l ∙ sym (ap₂ (minus 𝓖) (vertex_same ps (R.tail j)) (vertex_same ps (R.head j)));
        grounded = λ v l lowest. vertex_same ps v ∙ grounded_vertices (read 𝓖 ps) filled.grounded v l lowest;
        only = only_filling filled;
      }
