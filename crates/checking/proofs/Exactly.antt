-- What is found of small whole numbers is found of the integers.
use Rattle.std.proofs.Common.{◌≡◌, ℕ, zero, suc, ◌+◌, List, [], ◌∷◌, length, replicate, pos, sym, refl, ap, ap₂, ◌∙◌, subst, arith}
use Rattle.std.proofs.lemmas.List.{length-map}
use Rattle.quantity.specs.Integers.{integers}
use Rattle.quantity.specs.Wholes.{wholes}
use Rattle.quantity.specs.declared.numbers.Whole.{Whole}
use Rattle.netlist.specs.Netlist.{Netlist}
use Rattle.netlist.specs.Sound.{Sound}
use Rattle.network.specs.Readings.{Readings}
use Rattle.network.specs.ReadingsAgree.{ReadingsAgree}
use Rattle.network.specs.Flows.{NodesKeep}
use Rattle.network.specs.Laws.{LawsHold}
use Rattle.network.specs.Walks.{read, Solved}
use Rattle.network.proofs.Flowing.{sets_keep_as_nodes}
use Rattle.readings.proofs.Drawing.{sound_drawn}
use Rattle.walk_test.specs.Potentials.{potential_at}
use Rattle.small_readings.specs.Small.{AreSmall}
use Rattle.small_readings.specs.Exact.{values_of, integers_of, over_integers, Exact}
use Rattle.small_readings.proofs.Bounds.{held_as_is}
use Rattle.small_readings.proofs.Exactness.{small_is_exact}
use Rattle.checking.specs.declared.verdicts.Verdict.{Verdict}
use Rattle.checking.specs.declared.verdicts.Verdict.TheVariants.{Holds, Law, Node, Row}
use Rattle.checking.specs.Integers.{ExactVerdicts, JudgesIntegers}
use Rattle.checking.specs.Potentials.{Filling, Filled}
use Rattle.checking.specs.Verdicts.{VerdictIs}
use Rattle.checking.proofs.Filling.{filling, solved}

zero_value : wholes.zero.value ≡ integers.zero
zero_value = held_as_is (pos 0) (omega arith)

zeros : (n : ℕ) → values_of (replicate n wholes.zero) ≡ replicate n integers.zero
zeros zero = refl
zeros (suc n) = ap₂ (λ z zs. z ∷ zs) zero_value (zeros n)

all_zero : (ps : List Whole) → ps ≡ replicate (length ps) wholes.zero → values_of ps ≡ replicate (length (values_of ps)) integers.zero
all_zero ps e = ap values_of e ∙ zeros (length ps) ∙ ap (λ n. replicate n integers.zero) (sym (length-map ps (λ (x : Whole). x.value)))

read_value : (xs : List Whole) (v : ℕ) → (read wholes xs v).value ≡ read integers (values_of xs) v
read_value [] v = zero_value
read_value (x ∷ xs) zero = refl
read_value (x ∷ xs) (suc v) = read_value xs v

potential_value : (ps : List Whole) (v : ℕ) → (potential_at wholes ps v).value ≡ potential_at integers (values_of ps) v
potential_value ps zero = zero_value
potential_value ps (suc v) = read_value ps v

module _ (b : Netlist) (sound : Sound b) (r : Readings Whole) (small_values : AreSmall r.values) (small_rates : AreSmall r.rates) where
  exact : Exact b r
  exact = small_is_exact b sound r small_values small_rates

  laws : (n : ℕ) → LawsHold wholes b.laws r n → LawsHold integers b.laws (integers_of r) n
  laws n holds k l = (exact.laws k).0 (holds k l)

  nodes : (n : ℕ) → NodesKeep wholes b.rows r.values n → NodesKeep integers b.rows (values_of r.values) n
  nodes n keep u l = (exact.nodes u).0 (keep u l)

  keeps : ReadingsAgree wholes b r → NodesKeep wholes b.rows r.values (length b.domains)
  keeps agree = (sets_keep_as_nodes wholes b.rows r.values (length b.domains) (sound_drawn b sound)).0 agree.sets

  filled_integers : (ps : List Whole) → ReadingsAgree wholes b r → Filling wholes b r ps → Filling integers b (integers_of r) (values_of ps)
  filled_integers ps agree filled =
      let n = length b.domains in
      let over = (exact.solved (length b.rows) (omega arith) (potential_at wholes ps)).0 (solved wholes b sound r ps agree.laws (keeps agree) filled) in
      let same : (λ (v : ℕ). (potential_at wholes ps v).value) ≡ potential_at integers (values_of ps) = λ i v. potential_value ps v i in
      filling integers b sound (integers_of r) (values_of ps) (laws (length b.laws) agree.laws) (nodes n (keeps agree))
      (subst (Solved integers (over_integers b r.values) (n + 1) (length b.rows)) same over)

  judges : (ps : List Whole) (verdict : Verdict) → VerdictIs wholes b r verdict → Filled wholes b r ps verdict → JudgesIntegers b r ps verdict
  judges ps Holds is filled = (exact.readings_agree.0 is, filled_integers ps is filled)
  judges ps (Law k) is filled = ((exact.first_law k).0 is, all_zero ps filled)
  judges ps (Node n) is filled = ((laws _ is.0, (exact.first_node _ n).0 is.1), all_zero ps filled)
  judges ps (Row k) is filled = ((laws _ is.0, nodes _ is.1, (exact.refuted k).0 is.2), all_zero ps filled)

pub exact_verdicts : ExactVerdicts
exact_verdicts b sound r small_values small_rates verdict ps = judges b sound r small_values small_rates ps verdict
