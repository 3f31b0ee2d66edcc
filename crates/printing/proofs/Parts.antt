-- The equations of a sheet, each the part of the listed terms that its span tells.
use Rattle.std.proofs.Common.{◌≡◌, ℕ, zero, suc, ◌+◌, ◌-◌, ◌<◌, ◌≤◌, List, [], ◌∷◌, ◌++◌, length, get_or, take, drop, None, Option, refl, sym, ap, ◌∙◌, arith}
use Rattle.std.proofs.Math.Seq.{take-append_seam}
use Rattle.std.proofs.lemmas.Bool.Decides.{nat_tests}
use Rattle.std.proofs.lemmas.List.{append-nil, drop-drop, drop_all, drop_at, length-append}
use Rattle.netlist.specs.Buffers.{filled}
use Rattle.netlist.specs.Netlist.{Netlist}
use Rattle.netlist.specs.Pieces.{flat}
use Rattle.netlist.specs.declared.spans.Span.{Span}
use Rattle.netlist.specs.declared.terms.Term.{Term}
use Rattle.equation.specs.declared.refusals.EquationRefusal.{EquationRefusal}
use Rattle.equation.specs.Equations.{equations_of}
use Rattle.equation.specs.Listing.{spans_from, listing_of, judge_equations, left_spans, left_terms}
use Rattle.equation.proofs.Putting.{length_spans}

-- part k of lists that stand one after another
pub record Part (es : List (List Term)) (s : Span) (e : List Term) : Type 0 where
  pub within : s.offset + s.length ≤ length (flat es)
  pub is : take s.length (drop s.offset (flat es)) ≡ e

abbrev span_of : ℕ → List (List Term) → ℕ → Span
span_of a es k = record { offset = a + length (flat (take k es)); length = length (get_or es k []) }

spans_at : (a : ℕ) (es : List (List Term)) (k : ℕ) (d : Span) → k < length es → get_or (spans_from a es) k d ≡ span_of a es k
spans_at a [] k d l = absurd (omega arith)
spans_at a (e ∷ es) zero d l = let here : a ≡ a + 0 = omega arith in ap (λ (n : ℕ). record { offset = n; length = length e }) here
spans_at a (e ∷ es) (suc k) d l =
    let end : a + length e + length (flat (take k es)) ≡ a + length (e ++ flat (take k es)) = omega (arith, length-append e (flat (take k es))) in
    spans_at (a + length e) es k d (omega arith) ∙ ap (λ (n : ℕ). record { offset = n; length = length (get_or es k []) }) end

part_at : (es : List (List Term)) (k : ℕ) → k < length es → Part es (span_of 0 es k) (get_or es k [])
part_at [] k l = absurd (omega arith)
part_at (e ∷ es) zero l =
    let none : 0 + 0 ≡ 0 = omega arith in
    record {
      within = omega (arith, length-append e (flat es));
      is = ap (λ (m : ℕ). take (length e) (drop m (e ++ flat es))) none ∙ take-append_seam e (flat es);
    }
part_at (e ∷ es) (suc k) l =
    let rest = part_at es k (omega arith) in
    let n = 0 + length (flat (take k es)) in
    let size = length (get_or es k []) in
    let start : 0 + length (e ++ flat (take k es)) ≡ length e + n = omega (arith, length-append e (flat (take k es))) in
    let left : drop (length e + n) (e ++ flat es) ≡ drop n (flat es) =
    sym (drop-drop n (length e) (e ++ flat es)) ∙ ap (drop n) (drop_at e (flat es) (length e) refl) in
    record {
      within = omega (arith, rest.within, start, length-append e (flat es));
      is = ap (λ m. take size (drop m (e ++ flat es))) start ∙ ap (take size) left ∙ rest.is;
    }

pub listed_part : (es : List (List Term)) (spans : List Span) (k : ℕ) (d : Span) → spans ≡ spans_from 0 es → k < length spans → Part es (get_or spans k d) (get_or es k [])
listed_part es spans k d same l =
    let drawn : k < length es = omega (arith, ap length same, length_spans 0 es) in
    rw (same, spans_at 0 es k d drawn) (part_at es k drawn)

-- of terms that are those of a sheet's equations
module _ (b : Netlist) (terms : List Term) (spans : List Span) (k : ℕ) (d : Span) (whole : terms ≡ flat (equations_of b)) (same : spans ≡ spans_from 0 (equations_of b)) (l : k < length spans) where
  part : Part (equations_of b) (get_or spans k d) (get_or (equations_of b) k [])
  part = listed_part (equations_of b) spans k d same l

  pub drawn : k < length (equations_of b)
  drawn = omega (arith, ap length same, length_spans 0 (equations_of b))

  pub end_within : (get_or spans k d).offset + (get_or spans k d).length ≤ length terms
  end_within = omega (arith, part.within, ap length whole)

  pub sliced : take ((get_or spans k d).offset + (get_or spans k d).length - (get_or spans k d).offset) (drop (get_or spans k d).offset terms) ≡ get_or (equations_of b) k []
  sliced =
      let size : (get_or spans k d).offset + (get_or spans k d).length - (get_or spans k d).offset ≡ (get_or spans k d).length = omega arith in
      (λ i. take (size i) (drop (get_or spans k d).offset (whole i))) ∙ part.is

-- equations that are listed in buffers of their own size
module _ (b : Netlist) (terms : List Term) (spans : List Span) (fits : length terms ≡ (listing_of b).terms) (many : length spans ≡ (listing_of b).equations) where
  pub passes : judge_equations b (length terms) (length spans) ≡ None
  passes = grind (arith, nat_tests)

  pub all_terms : left_terms b terms spans ≡ flat (equations_of b)
  all_terms =
      ap (λ (why : Option EquationRefusal). filled why terms (flat (equations_of b))) passes
      ∙ ap (λ (xs : List Term). flat (equations_of b) ++ xs) (drop_all (length (flat (equations_of b))) terms (omega arith))
      ∙ append-nil (flat (equations_of b))

  pub all_spans : left_spans b terms spans ≡ spans_from 0 (equations_of b)
  all_spans =
      let own = spans_from 0 (equations_of b) in
      ap (λ (why : Option EquationRefusal). filled why spans own) passes
      ∙ ap (λ (xs : List Span). own ++ xs) (drop_all (length own) spans (omega (arith, length_spans 0 (equations_of b))))
      ∙ append-nil own
