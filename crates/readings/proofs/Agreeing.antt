-- The listed equations hold with some potentials exactly if the readings agree.
use Rattle.std.proofs.Common.{◌≡◌, ℕ, zero, suc, ◌+◌, ◌-◌, ◌<◌, length, sym, ap, ◌∙◌, ap₂, ⊎_elim, add-one, arith}
use Rattle.std.proofs.lemmas.Bool.{cases_lt}
use Rattle.quantity.specs.Group.{Group, minus}
use Rattle.quantity.proofs.Groups.{minus_same, same_from_minus}
use Rattle.netlist.specs.Netlist.{Netlist}
use Rattle.netlist.specs.Sound.{Sound}
use Rattle.equation.specs.Equations.{equations_of}
use Rattle.equation.proofs.Counting.{equations_are}
use Rattle.equation.proofs.Finding.{law_at, node_at, row_at as row_equation_at}
use Rattle.network.specs.Readings.{Readings}
use Rattle.network.specs.ReadingsAgree.{ReadingsAgree}
use Rattle.network.specs.Flows.{NodesKeep}
use Rattle.network.specs.Laws.{LawsHold}
use Rattle.network.specs.Walks.{Network, Satisfies, row_at, no_row, network_of}
use Rattle.network.proofs.Flowing.{sets_keep_as_nodes}
use Rattle.network.proofs.Folding.{closing_has_potentials}
use Rattle.network.proofs.Walking.{potentials_close_walks}
use Rattle.readings.specs.Readings.{equation_sum, comes_to, EquationsHold}
use Rattle.readings.specs.Agreement.{with_earth, difference_over, across_reading, EquationParts, EquationsByPart, EquationsAgree}
use Rattle.readings.proofs.Drawing.{sound_drawn, flow_drawn, across_drawn}
use Rattle.readings.proofs.Evaluating.{law_comes, node_comes, row_comes}

module _ {G : Type 0} (𝓖 : Group G) where
  -- potentials of all vertices, with the earth at zero, from those of the nodes
  pub same_vertex : (q : ℕ → G) → q 0 ≡ 𝓖.zero → (v : ℕ) → q v ≡ with_earth 𝓖 (λ u. q (u + 1)) v
  same_vertex q earth zero = earth
  same_vertex q earth (suc u) = ap q (sym (add-one u))

  module _ (b : Netlist) (sound : Sound b) (r : Readings G) where
    abbrev Rows : Network G
    Rows = network_of 𝓖 b.rows r.values

    count : length (equations_of b) ≡ length b.laws + length b.domains + length b.rows
    count = equations_are b sound

    module _ (p : ℕ → G) where
      row_part : (j : ℕ) → j < length b.rows → comes_to 𝓖 b r p (length b.laws + (length b.domains + j)) ≡ minus 𝓖 (across_reading 𝓖 b r.values j) (difference_over 𝓖 b p j)
      row_part j l =
          ap (equation_sum 𝓖 b.variables r p) (row_equation_at b.laws b.rows (length b.domains) b.variables j no_row l)
          ∙ row_comes 𝓖 b.variables r p (row_at b.rows j) (across_drawn b sound j l)

      equation_parts : EquationParts 𝓖 b r p
      equation_parts = record {
        law = λ k l.
            ap (equation_sum 𝓖 b.variables r p) (law_at b.laws b.rows (length b.domains) b.variables k l)
            ∙ law_comes 𝓖 b.variables r p _ (sound.laws k l).named;
        node = λ u l.
            ap (equation_sum 𝓖 b.variables r p) (node_at b.laws b.rows (length b.domains) b.variables u l)
            ∙ node_comes 𝓖 b.variables r p b.rows u (flow_drawn b sound);
        row = row_part;
        row_holds = λ j l. (
          λ e. same_from_minus 𝓖 _ _ (sym (row_part j l) ∙ e),
          λ e. row_part j l ∙ minus_same 𝓖 _ _ e,
        );
      }

      agree_from : EquationsHold 𝓖 b r p → ReadingsAgree 𝓖 b r
      agree_from holds =
          let parts = equation_parts in
          record {
            laws = λ k l. sym (parts.law k l) ∙ holds k (omega (arith, count));
            sets = (sets_keep_as_nodes 𝓖 b.rows r.values (length b.domains) (sound_drawn b sound)).1
                (λ u l. sym (parts.node u l) ∙ holds (length b.laws + u) (omega (arith, count)));
            walks = potentials_close_walks 𝓖 Rows (length b.rows) (with_earth 𝓖 p)
                (λ j l. (parts.row_holds j l).0 (holds (length b.laws + (length b.domains + j)) (omega (arith, count))));
          }

      -- equation i is a law's, a node's or a row's
      pub holds_from : LawsHold 𝓖 b.laws r (length b.laws) → NodesKeep 𝓖 b.rows r.values (length b.domains) → Satisfies 𝓖 Rows (length b.rows) (with_earth 𝓖 p) → EquationsHold 𝓖 b r p
      holds_from laws nodes rows i l =
          let parts = equation_parts in
          ⊎_elim
          (λ first. parts.law i first ∙ laws i first)
          (λ past. ⊎_elim
          (λ second.
          let at : i ≡ length b.laws + (i - length b.laws) = omega arith in
          ap (comes_to 𝓖 b r p) at ∙ parts.node _ second ∙ nodes _ second)
          (λ third.
          let j = i - length b.laws - length b.domains in
          let at : i ≡ length b.laws + (length b.domains + j) = omega arith in
          let within : j < length b.rows = omega (arith, count) in
          ap (comes_to 𝓖 b r p) at ∙ (parts.row_holds j within).1 (rows j within))
          (cases_lt (i - length b.laws) (length b.domains)))
          (cases_lt i (length b.laws))

    some_hold : ReadingsAgree 𝓖 b r → (p : ℕ → G) × EquationsHold 𝓖 b r p
    some_hold agree =
        let drawn = sound_drawn b sound in
        let found = closing_has_potentials 𝓖 Rows (length b.domains + 1) (length b.rows) drawn agree.walks in
        let q = found.0 in
        let earth : q 0 ≡ 𝓖.zero = found.1.grounded 0 (omega arith) (λ u s w. omega arith) in (
          λ u. q (u + 1),
          holds_from (λ u. q (u + 1)) agree.laws
              ((sets_keep_as_nodes 𝓖 b.rows r.values (length b.domains) drawn).0 agree.sets)
              (λ j l. found.1.satisfies j l ∙ ap₂ (minus 𝓖) (same_vertex q earth (Rows.tail j)) (same_vertex q earth (Rows.head j))),
        )

  pub equations_by_part : EquationsByPart 𝓖
  equations_by_part b sound r p = equation_parts b sound r p

  pub equations_agree : EquationsAgree 𝓖
  equations_agree b sound r = (λ some. agree_from b sound r some.0 some.1, some_hold b sound r)
