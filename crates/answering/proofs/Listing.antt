-- The potentials that are printed, and those that are left.
use Rattle.std.proofs.Common.{◌≡◌, ℕ, ◌+◌, ◌<◌, ◌≤◌, List, ◌++◌, length, drop, get_or, sym, ap, ◌∙◌, append_assoc, append-nil}
use Rattle.std.proofs.lemmas.List.{drop_more, drop_all}
use Rattle.quantity.specs.declared.numbers.Whole.{Whole}
use Rattle.text.specs.Grammar.{Bytes}
use Rattle.answering.specs.Potentials.{potential_text, potentials_text}

-- with what is left, all is printed
pub one_printed : (n : ℕ) (ps : List Whole) (d : Whole) (out out' all : Bytes) → n < length ps → out ++ potentials_text n (drop n ps) ≡ all → out' ≡ out ++ potential_text n (get_or ps n d) → out' ++ potentials_text (n + 1) (drop (n + 1) ps) ≡ all
one_printed n ps d out out' all l was now =
    ap (λ (x : Bytes). x ++ potentials_text (n + 1) (drop (n + 1) ps)) now
    ∙ append_assoc out (potential_text n (get_or ps n d)) (potentials_text (n + 1) (drop (n + 1) ps))
    ∙ ap (λ (x : List Whole). out ++ potentials_text n x) (sym (drop_more ps n d l))
    ∙ was

pub all_printed : (n : ℕ) (ps : List Whole) (out all : Bytes) → length ps ≤ n → out ++ potentials_text n (drop n ps) ≡ all → out ≡ all
all_printed n ps out all l was = sym (append-nil out) ∙ ap (λ (x : List Whole). out ++ potentials_text n x) (sym (drop_all n ps l)) ∙ was
