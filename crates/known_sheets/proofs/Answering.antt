-- What a check answers, from what is so of the readings.
use Rattle.std.proofs.Common.{◌≡◌, ◌≢◌, ℕ, zero, suc, ◌<◌, ◌≤◌, Bool, false, eqb, List, [], ◌∷◌, length, replicate, ℤ, pos, negsuc, None, Result, Ok, Err, sym, ap, subst, ◌∙◌, arith}
use Rattle.std.proofs.lemmas.Bool.{true≢false}
use Rattle.std.proofs.lemmas.Bool.Decides.{nat_tests}
use Rattle.std.proofs.lemmas.List.{length-replicate, ext_get_or}
use Rattle.std.specs.Int.{int_wrap, w64}
use Rattle.quantity.specs.Wholes.{whole, wholes}
use Rattle.quantity.specs.declared.numbers.Whole.{Whole}
use Rattle.quantity.specs.Group.{Group, minus}
use Rattle.quantity.proofs.Groups.{minus_sum, negation_minus, same_from_minus}
use Rattle.checking.specs.declared.refusals.CheckRefusal.{CheckRefusal}
use Rattle.netlist.specs.Netlist.{Netlist}
use Rattle.network.specs.Readings.{Readings}
use Rattle.network.specs.ReadingsAgree.{ReadingsAgree}
use Rattle.network.specs.Flows.{NodesKeep}
use Rattle.network.specs.Laws.{LawsHold}
use Rattle.network.specs.Walks.{Network, Step, forward, backward, Walk, Drawn, Satisfies, tail_of, head_of, Lowest, network_of, read}
use Rattle.network.proofs.Flowing.{sets_keep_as_nodes}
use Rattle.network.proofs.Walking.{potentials_close_walks}
use Rattle.readings.specs.Agreement.{with_earth}
use Rattle.readings.specs.Readings.{equation_sum}
use Rattle.readings.proofs.Evaluating.{row_comes}
use Rattle.equation.specs.Equations.{row_equation}
use Rattle.netlist.specs.Rows.{across_of}
use Rattle.netlist.specs.declared.rows.Row.{Row as NetlistRow}
use Rattle.checking.specs.declared.verdicts.Verdict.{Verdict}
use Rattle.checking.specs.declared.verdicts.Verdict.TheVariants.{Holds, Law, Node, Row}
use Rattle.checking.specs.Checked.{Checked, judge_check}
use Rattle.checking.specs.Potentials.{Filled}
use Rattle.checking.specs.Verdicts.{VerdictIs}
use Rattle.checking.proofs.Deciding.{one_verdict}
use Rattle.known_sheets.specs.Cases.{IsChecked, steady}

-- so of the first n numbers
abbrev pub AllBelow : ℕ → (ℕ → Type 0) → Type 0
AllBelow zero P = Unit {0}
AllBelow (suc n) P = P 0 × AllBelow n (λ j. P (suc j))

pub below : (n : ℕ) (P : ℕ → Type 0) → AllBelow n P → (j : ℕ) → j < n → P j
below zero P all j l = absurd (omega arith)
below (suc n) P all zero l = all.0
below (suc n) P all (suc j) l = below n (λ i. P (suc i)) all.1 j (omega arith)

abbrev pub is_zero : ℤ → Bool
is_zero (pos n) = eqb n 0
is_zero (negsuc n) = false

pub nonzero : (z : ℤ) → is_zero z ≡ false → z ≢ pos 0
nonzero z e h = true≢false (sym (ap is_zero h) ∙ e)

pub nonzero_whole : (z : ℤ) → is_zero (int_wrap w64 z) ≡ false → whole z ≢ wholes.zero
unfolding int_wrap
nonzero_whole z e h = true≢false (sym (ap (λ (x : Whole). is_zero x.value) h) ∙ e)

module _ {G : Type 0} (𝓖 : Group G) where
  same_potentials : (b : Netlist) (r : Readings G) (ps new : List G) (v : Verdict) → length ps ≡ length b.domains → length new ≡ length b.domains → Filled 𝓖 b r ps v → Filled 𝓖 b r new v → new ≡ ps
  same_potentials b r ps new Holds each each' f h = ext_get_or 𝓖.zero new ps (each' ∙ sym each) (λ n l. f.only (read 𝓖 new) h.fits h.grounded n (omega arith))
  same_potentials b r ps new (Law k) each each' f h = h ∙ ap (λ n. replicate n 𝓖.zero) (each' ∙ sym each) ∙ sym f
  same_potentials b r ps new (Node n) each each' f h = h ∙ ap (λ n. replicate n 𝓖.zero) (each' ∙ sym each) ∙ sym f
  same_potentials b r ps new (Row k) each each' f h = h ∙ ap (λ n. replicate n 𝓖.zero) (each' ∙ sym each) ∙ sym f

  module _ (b : Netlist) (values : List G) (verdict : Verdict) (ps : List G) (each_variable : length values ≡ b.variables) (each_node : length ps ≡ length b.domains) (is : VerdictIs 𝓖 b (steady 𝓖 values) verdict) (filled : Filled 𝓖 b (steady 𝓖 values) ps verdict) where
    abbrev r : Readings G
    r = steady 𝓖 values

    begins : (old : List G) → length old ≡ length b.domains → judge_check b r (length old) ≡ None
    begins old e = grind (arith, nat_tests, length-replicate)

    no_other : (old new : List G) (other : Result Verdict CheckRefusal) → length old ≡ length b.domains → Checked 𝓖 b r old new other → (other ≡ Ok verdict) × (new ≡ ps)
    no_other old new (Ok v) e c =
        let same : v ≡ verdict = one_verdict 𝓖 b r v verdict c.2 is in
        (ap (λ u. Ok u) same, same_potentials b r ps new verdict each_node (c.1 ∙ e) filled (subst (Filled 𝓖 b r new) same c.3))
    no_other old new (Err why) e c =
        let judged = begins old e in
        let refused = c.0 in
        absurd cc

    pub answers : IsChecked 𝓖 b values verdict ps
    answers = record { so = λ old e. (begins old e, each_node ∙ sym e, is, filled); only = no_other }

  pub agree : (b : Netlist) (r : Readings G) (ps : List G) → Drawn b.rows (length b.domains) → LawsHold 𝓖 b.laws r (length b.laws) → NodesKeep 𝓖 b.rows r.values (length b.domains) → Satisfies 𝓖 (network_of 𝓖 b.rows r.values) (length b.rows) (with_earth 𝓖 (read 𝓖 ps)) → ReadingsAgree 𝓖 b r
  agree b r ps drawn laws nodes satisfied = record {
    laws = laws;
    sets = (sets_keep_as_nodes 𝓖 b.rows r.values (length b.domains) drawn).1 nodes;
    walks = potentials_close_walks 𝓖 _ (length b.rows) (with_earth 𝓖 (read 𝓖 ps)) satisfied;
  }

  module _ (R : Network G) (k : ℕ) (unearthed : (j : ℕ) → j < k → (1 ≤ R.tail j) × (1 ≤ R.head j)) where
    above : (a u : ℕ) (s : List Step) → 1 ≤ a → Walk R k a s u → 1 ≤ u
    above a u [] l e = omega arith
    above a u (forward j ∷ s) l w = above (R.head j) u s (unearthed j w.0).1 w.2
    above a u (backward j ∷ s) l w = above (R.tail j) u s (unearthed j w.0).0 w.2

    -- where no row is earthed no walk comes to the earth, and so none from node 0 comes lower
    pub first_is_lowest : Lowest R k 1
    first_is_lowest u s w = above 1 u s (omega arith) w

  -- across a row that holds, one end's potential follows from the other's
  module _ (n : ℕ) (r : Readings G) (q : ℕ → G) (row : NetlistRow ℕ) (named : across_of row < n) (holds : equation_sum 𝓖 n r q (row_equation n row) ≡ 𝓖.zero) where
    abbrev start : G
    start = with_earth 𝓖 q (tail_of row)

    abbrev end : G
    end = with_earth 𝓖 q (head_of row)

    gap : read 𝓖 r.values (across_of row) ≡ minus 𝓖 start end
    gap = same_from_minus 𝓖 _ _ (sym (row_comes 𝓖 n r q row named) ∙ holds)

    pub end_potential : end ≡ minus 𝓖 start (read 𝓖 r.values (across_of row))
    end_potential =
        sym (minus_sum 𝓖 start end)
        ∙ ap (𝓖.sum start) (sym (negation_minus 𝓖 start end) ∙ ap 𝓖.negation (sym gap))

    pub start_potential : start ≡ 𝓖.sum end (read 𝓖 r.values (across_of row))
    start_potential = sym (minus_sum 𝓖 end start) ∙ ap (𝓖.sum end) (sym gap)
