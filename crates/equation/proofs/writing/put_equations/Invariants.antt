use Rattle.std.proofs.Common.{◌≡◌, ◌+◌, ◌≤◌, length, drop}
use Rattle.sheet.specs.Views.{laws_left}
use Rattle.equation.specs.Equations.{equations_of}
use Rattle.equation.proofs.Putting.{Listed}
use Rattle.equation.proofs.writing.put_equations.Given as goal

abbrev pub invariant-loop-law : goal.invariant-loop-law
invariant-loop-law l =
    let b = l.sheet in
    let lister = l.lister in
    record {
      can_next : (goal.iterator-loop-law).can_next l.law-iterator;
      is_finite : (goal.iterator-loop-law).is_finite l.law-iterator;
      same_terms : lister.terms.ghost_name ≡ l.initial.lister.terms.ghost_name;
      same_spans : lister.spans.ghost_name ≡ l.initial.lister.spans.ghost_name;
      within : lister.listed ≤ length b.laws;
      left : drop lister.listed b.laws ≡ laws_left l.law-iterator;
      listed : Listed l.fn.terms l.fn.spans (equations_of b) lister.terms.now lister.spans.now lister.written lister.listed;
    }

abbrev pub invariant-loop-row : goal.invariant-loop-row
invariant-loop-row l =
    let b = l.sheet in
    let lister = l.lister in
    record {
      same_terms : lister.terms.ghost_name ≡ l.initial.lister.terms.ghost_name;
      same_spans : lister.spans.ghost_name ≡ l.initial.lister.spans.ghost_name;
      place : lister.listed ≡ length b.laws + (length b.domains + l.row-index);
      listed : Listed l.fn.terms l.fn.spans (equations_of b) lister.terms.now lister.spans.now lister.written lister.listed;
    }
