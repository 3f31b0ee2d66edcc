-- Laws that are cut from one table keep to their bounds if the table does.
use Rattle.std.proofs.Common.{◌≡◌, ℕ, zero, suc, ◌<◌, true, List, [], ◌∷◌, length, get_or, take, drop, sym, subst, arith}
use Rattle.std.proofs.lemmas.List.{length-take-le, length-drop}
use Rattle.std.proofs.lemmas.Bool.{and_parts}
use Rattle.netlist.specs.declared.terms.Term.{Term}
use Rattle.netlist.specs.Pieces.{pieces}
use Rattle.netlist.specs.Sound.{names, is_sized, is_term_count, Lawful}
use Rattle.std.specs.List.{list_all, sum}
use Rattle.netlist.proofs.Cuts.{sum_cons}
use Rattle.netlist.proofs.Every.{every_take, every_drop}

pub lawful_pieces : (n : ℕ) (ns : List ℕ) (ts : List Term) → sum ns ≡ length ts → list_all is_term_count ns ≡ true → list_all (names n) ts ≡ true → list_all is_sized ts ≡ true → (k : ℕ) → k < length (pieces ns ts) → Lawful n (get_or (pieces ns ts) k [])
lawful_pieces n [] ts cut counted named sized k h = absurd (omega arith)
lawful_pieces n (m ∷ ns) ts cut counted named sized zero h =
    let front : m ≡ length (take m ts) = sym (length-take-le m ts (omega (arith, sum_cons m ns))) in
    record {
      count = subst (λ (j : ℕ). is_term_count j ≡ true) front (and_parts (is_term_count m) (list_all is_term_count ns) counted).0;
      named = every_take (names n) m ts named;
      sized = every_take is_sized m ts sized;
    }
lawful_pieces n (m ∷ ns) ts cut counted named sized (suc k) h =
    let left = length-drop m ts in
    lawful_pieces n ns (drop m ts) (omega (arith, sum_cons m ns)) (and_parts (is_term_count m) (list_all is_term_count ns) counted).1 (every_drop (names n) m ts named) (every_drop is_sized m ts sized) k (omega arith)
