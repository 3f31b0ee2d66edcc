-- What the functions that write equations one after another say of their work.
use Rattle.std.specs.Prelude.{◌≡◌, ℕ, ◌+◌, ◌^◌, ◌<◌, cond, List, length, ◌==◌, slice_set}
use Rattle.netlist.specs.declared.rows.Row.{Row}
use Rattle.netlist.specs.declared.rows.Row.TheVariants.{Branch, Earth}
use Rattle.netlist.specs.declared.spans.Span.{Span}
use Rattle.netlist.specs.declared.terms.Term.{Term}
use Rattle.netlist.specs.Buffers.{written}
use Rattle.netlist.specs.Pieces.{flat}
use Rattle.equation.specs.Listing.{spans_from}
use Rattle.equation.specs.declared.rows.RowEquation.{RowEquation}
use Rattle.equation.specs.declared.writing.Lister.{Lister}

-- the equation e is written from place at on, and where it stands at place k; the next ones go to at' and k'
pub record Put (old : List Term) (olds : List Span) (at k : ℕ) (e now : List Term) (nows : List Span) (at' k' : ℕ)
    : Type 0 where
  pub terms : now ≡ written old at e
  pub spans : nows ≡ slice_set olds k (record { offset = at; length = length e })
  pub next_term : at' ≡ at + length e
  pub next_span : k' ≡ k + 1

-- the same of equations es, one after another
pub record PutAll (old : List Term) (olds : List Span) (at k : ℕ) (es : List (List Term)) (now : List Term)
    (nows : List Span) (at' k' : ℕ) : Type 0 where
  pub terms : now ≡ written old at (flat es)
  pub spans : nows ≡ written olds k (spans_from at es)
  pub next_term : at' ≡ at + length (flat es)
  pub next_span : k' ≡ k + length es

abbrev pub span_at : ℕ → ℕ → Span
span_at at count = record { offset = at; length = count }

-- A lister has put an equation, or some, behind the others, or has only noted where an equation's terms stand. It keeps
-- its two buffers.
pub record Lists (before : Lister) (e : List Term) (after : Lister) : Type 0 where
  pub same_terms : after.terms.ghost_name ≡ before.terms.ghost_name
  pub same_spans : after.spans.ghost_name ≡ before.spans.ghost_name
  pub put : Put before.terms.now before.spans.now before.written before.listed e
      after.terms.now after.spans.now after.written after.listed

pub record ListsAll (before : Lister) (es : List (List Term)) (after : Lister) : Type 0 where
  pub same_terms : after.terms.ghost_name ≡ before.terms.ghost_name
  pub same_spans : after.spans.ghost_name ≡ before.spans.ghost_name
  pub put : PutAll before.terms.now before.spans.now before.written before.listed es
      after.terms.now after.spans.now after.written after.listed

pub record Closes (before : Lister) (count : ℕ) (after : Lister) : Type 0 where
  pub same_terms : after.terms.ghost_name ≡ before.terms.ghost_name
  pub same_spans : after.spans.ghost_name ≡ before.spans.ghost_name
  pub terms : after.terms.now ≡ before.terms.now
  pub spans : after.spans.now ≡ slice_set before.spans.now before.listed (span_at before.written count)
  pub written : after.written ≡ before.written + count
  pub listed : after.listed ≡ before.listed + 1

-- the numbers of the row's potentials fit 64 bits
abbrev pub Numbered : ℕ → Row ℕ → Type 0
Numbered variables (Branch flow across first second) = (variables + first < 2 ^ 64) × (variables + second < 2 ^ 64)
Numbered variables (Earth flow across node) = variables + node < 2 ^ 64

-- the terms of a row's equation
abbrev pub terms_of : RowEquation → List Term
terms_of (RowEquation.Branch terms) = terms
terms_of (RowEquation.Earth terms) = terms

-- how many terms a row brings, at its nodes and in its own equation
abbrev pub row_size : Row ℕ → ℕ
row_size (Branch flow across first second) = cond (first == second) 3 5
row_size (Earth flow across node) = 3
