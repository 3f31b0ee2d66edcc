-- A line that is printed, and what the call then answers.
use Rattle.std.proofs.Common.{◌≡◌, ℕ, List, Result, sym, ap, ◌∙◌}
use Rattle.netlist.specs.Netlist.{Netlist}
use Rattle.netlist.specs.declared.terms.Term.{Term}
use Rattle.spelling.specs.declared.refusals.WriteRefusal.{WriteRefusal}
use Rattle.spelling.specs.Lines.{line_text}
use Rattle.spelling.specs.Rules.{answer_text, printed}
use Rattle.equation.proofs.Putting.{Next}
use Rattle.equation.specs.Equations.{equations_of}
use Rattle.equation.specs.Printing.{line_of, Printed}

module _ (b : Netlist) (k : ℕ) (old : List ℕ) where
  pub lined : (e : List Term) (variables : ℕ) (answered : Result ℕ WriteRefusal) (new : List ℕ) → Next (equations_of b) k e → variables ≡ b.variables → Printed old (line_text variables e) answered new → Printed old (line_of b k) answered new
  lined e variables answered new n same p =
      let text : line_text variables e ≡ line_of b k = λ i. line_text (same i) (sym n.is i) in
      record { answer = p.answer ∙ ap (answer_text old) text; buffer = p.buffer ∙ ap (printed old) text }
