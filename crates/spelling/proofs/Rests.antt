-- The text of the rest of a sum, from one term of it to the next, and that of numbers, from one to the next.
use Rattle.std.proofs.Common.{◌≡◌, ℕ, ◌+◌, ◌<◌, List, ◌++◌, length, get_or, take, drop, pos, codes, decimal}
use Rattle.std.proofs.lemmas.List.{at_drop_more}
use Rattle.netlist.specs.declared.terms.Order.TheVariants.{Value}
use Rattle.netlist.specs.declared.terms.Term.{Term}
use Rattle.netlist.proofs.Joined.{joined_next}
use Rattle.spelling.specs.Numbers.{numbers_text}
use Rattle.spelling.specs.Lines.{term_text, rest_text}

-- what a read past the end would give
abbrev pub nothing : Term
nothing = record { coefficient = pos 0; order = Value; variable = 0 }

module _ (variables : ℕ) (ts : List Term) (i : ℕ) (h : i < length ts) where
  pub rest_first : rest_text variables (drop i ts) ≡ codes " " ++ (term_text variables (get_or ts i nothing) ++ rest_text variables (drop (i + 1) ts))
  rest_first = at_drop_more (rest_text variables) ts i nothing h

  pub rest_more : rest_text variables (take (i + 1) ts) ≡ rest_text variables (take i ts) ++ (codes " " ++ term_text variables (get_or ts i nothing))
  rest_more = joined_next (λ t. codes " " ++ term_text variables t) ts i nothing h

module _ (ns : List ℕ) (i : ℕ) (h : i < length ns) where
  pub numbers_first : numbers_text (drop i ns) ≡ codes " " ++ (decimal (get_or ns i 0) ++ numbers_text (drop (i + 1) ns))
  numbers_first = at_drop_more numbers_text ns i 0 h

  pub numbers_more : numbers_text (take (i + 1) ns) ≡ numbers_text (take i ns) ++ (codes " " ++ decimal (get_or ns i 0))
  numbers_more = joined_next (λ n. codes " " ++ decimal n) ns i 0 h
