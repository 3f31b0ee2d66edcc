-- Writing equations into two buffers, one equation after another.
use Rattle.std.proofs.Common.{◌≡◌, ℕ, ◌+◌, ◌<◌, ◌≤◌, List, [], ◌∷◌, ◌++◌, length, get_or, take, set, sym, refl, ap, ◌∙◌, arith}
use Rattle.std.proofs.lemmas.List.{length-append, length-take-le, take_more, take_all}
use Rattle.netlist.specs.declared.spans.Span.{Span}
use Rattle.netlist.specs.declared.terms.Term.{Term}
use Rattle.netlist.specs.Buffers.{written, over}
use Rattle.netlist.specs.Pieces.{flat}
use Rattle.equation.specs.Listing.{spans_from}
use Rattle.equation.specs.Writing.{Put, PutAll}
use Rattle.netlist.proofs.Joined.{joined_append, joined_take_le, joined_next}
use Rattle.equation.proofs.Overs.{length_over, over_push, over_written}

-- The first k equations stand in two buffers that held old and olds, from the starts on, and their terms end
-- at place at.
pub record Listed (old : List Term) (olds : List Span) (all : List (List Term)) (now : List Term) (nows : List Span) (at k : ℕ) : Type 0 where
  pub terms : now ≡ over old (flat (take k all))
  pub spans : nows ≡ over olds (spans_from 0 (take k all))
  pub next : at ≡ length (flat (take k all))

pub length_spans : (a : ℕ) (es : List (List Term)) → length (spans_from a es) ≡ length es
length_spans a [] = refl
length_spans a (e ∷ es) = omega (arith, length_spans (a + length e) es)

spans_push : (a : ℕ) (es : List (List Term)) (e : List Term) → spans_from a (es ++ e ∷ []) ≡ spans_from a es ++ record { offset = a + length (flat es); length = length e } ∷ []
spans_push a [] e = let here : a ≡ a + 0 = omega arith in ap (λ (n : ℕ). record { offset = n; length = length e } ∷ []) here
spans_push a (d ∷ es) e =
    let end : a + length d + length (flat es) ≡ a + length (d ++ flat es) = omega (arith, length-append d (flat es)) in
    ap (λ (ps : List Span). record { offset = a; length = length d } ∷ ps) (spans_push (a + length d) es e ∙ ap (λ (n : ℕ). spans_from (a + length d) es ++ record { offset = n; length = length e } ∷ []) end)

spans_append : (a : ℕ) (xs ys : List (List Term)) → spans_from a (xs ++ ys) ≡ spans_from a xs ++ spans_from (a + length (flat xs)) ys
spans_append a [] ys = let here : a ≡ a + 0 = omega arith in ap (λ (n : ℕ). spans_from n ys) here
spans_append a (x ∷ xs) ys =
    let end : a + length x + length (flat xs) ≡ a + length (x ++ flat xs) = omega (arith, length-append x (flat xs)) in
    ap (λ (ps : List Span). record { offset = a; length = length x } ∷ ps) (spans_append (a + length x) xs ys ∙ ap (λ (n : ℕ). spans_from (a + length x) xs ++ spans_from n ys) end)

-- the equations from k on are es
pub record NextAll (all : List (List Term)) (k : ℕ) (es : List (List Term)) : Type 0 where
  pub within : k + length es ≤ length all
  pub are : take (k + length es) all ≡ take k all ++ es

-- equation k is e
pub record Next (all : List (List Term)) (k : ℕ) (e : List Term) : Type 0 where
  pub within : k < length all
  pub is : get_or all k [] ≡ e

pub start : (old : List Term) (olds : List Span) (all : List (List Term)) → Listed old olds all old olds 0 0
start old olds all = record { terms = refl; spans = refl; next = refl }

module _ {old : List Term} {olds : List Span} {all : List (List Term)} {now : List Term} {nows : List Span} {at k : ℕ} (so : Listed old olds all now nows at k) where
  -- when every equation is listed
  pub all_terms : length all ≤ k → now ≡ over old (flat all)
  all_terms h = so.terms ∙ ap (λ (es : List (List Term)). over old (flat es)) (take_all k all h)

  pub all_spans : length all ≤ k → nows ≡ over olds (spans_from 0 all)
  all_spans h = so.spans ∙ ap (λ (es : List (List Term)). over olds (spans_from 0 es)) (take_all k all h)

  -- when equation k is next
  module _ {e : List Term} (fits : length (flat all) ≤ length old) (many : length all ≤ length olds) (n : Next all k e) where
    all_next : take (k + 1) all ≡ take k all ++ e ∷ []
    all_next = take_more all k [] n.within ∙ ap (λ (x : List Term). take k all ++ x ∷ []) n.is

    flat_next : flat (take (k + 1) all) ≡ flat (take k all) ++ e
    flat_next = joined_next (λ x. x) all k [] n.within ∙ ap (λ (x : List Term). flat (take k all) ++ x) n.is

    long : length (flat (take k all)) + length e ≤ length old
    long = omega (arith, ap length flat_next, length-append (flat (take k all)) e, joined_take_le (λ (x : List Term). x) (k + 1) all)

    front : length (spans_from 0 (take k all)) ≡ k
    front = omega (arith, length_spans 0 (take k all), length-take-le k all (omega (arith, n.within)))

    -- there is room for it
    pub terms_room : at + length e ≤ length now
    terms_room = omega (arith, long, so.next, ap length so.terms, length_over old (flat (take k all)) (omega (arith, long)))

    pub spans_room : k < length nows
    spans_room =
        omega (arith, n.within, front, ap length so.spans, length_over olds (spans_from 0 (take k all)) (omega (arith, n.within, front)))

    -- and once it is put there, it is listed too
    pub one_more : {now' : List Term} {nows' : List Span} {at' k' : ℕ} → Put now nows at k e now' nows' at' k' → Listed old olds all now' nows' at' k'
    one_more {now'} {nows'} {at'} {k'} p =
        let es = take k all in
        let from : at ≡ 0 + length (flat es) = omega (arith, so.next) in
        let last : take k' all ≡ es ++ e ∷ [] = ap (λ (m : ℕ). take m all) p.next_span ∙ all_next in
        record {
          terms =
              p.terms ∙ (λ j. written (so.terms j) (so.next j) e)
              ∙ over_written old (flat es) e long
              ∙ ap (over old) (sym flat_next ∙ ap (λ (m : ℕ). flat (take m all)) (sym p.next_span));
          spans =
              p.spans ∙ (λ j. set (so.spans j) (sym front j) (record { offset = from j; length = length e }))
              ∙ over_push olds (spans_from 0 es) (record { offset = 0 + length (flat es); length = length e }) (omega (arith, n.within, front))
              ∙ ap (over olds) (sym (spans_push 0 es e) ∙ ap (spans_from 0) (sym last));
          next = omega (arith, p.next_term, so.next, ap (λ (m : ℕ). length (flat (take m all))) p.next_span, ap length flat_next, length-append (flat es) e);
        }

  -- when equations es are next
  module _ {es : List (List Term)} (fits : length (flat all) ≤ length old) (many : length all ≤ length olds) (n : NextAll all k es) where
    abbrev before : List (List Term)
    before = take k all

    flat_all : flat (take (k + length es) all) ≡ flat before ++ flat es
    flat_all = ap flat n.are ∙ joined_append (λ x. x) before es

    long_all : length (flat before) + length (flat es) ≤ length old
    long_all = omega (arith, ap length flat_all, length-append (flat before) (flat es), joined_take_le (λ (x : List Term). x) (k + length es) all)

    front_all : length (spans_from 0 before) ≡ k
    front_all = omega (arith, length_spans 0 before, length-take-le k all (omega (arith, n.within)))

    -- there is room for them
    pub all_terms_room : at + length (flat es) ≤ length now
    all_terms_room = omega (arith, long_all, so.next, ap length so.terms, length_over old (flat before) (omega (arith, long_all)))

    pub all_spans_room : k + length es ≤ length nows
    all_spans_room =
        omega (arith, n.within, front_all, ap length so.spans, length_over olds (spans_from 0 before) (omega (arith, n.within, front_all)))

    -- and once they are put there, they are listed too
    pub all_more : {now' : List Term} {nows' : List Span} {at' k' : ℕ} → PutAll now nows at k es now' nows' at' k' → Listed old olds all now' nows' at' k'
    all_more {now'} {nows'} {at'} {k'} p =
        let from : at ≡ 0 + length (flat before) = omega (arith, so.next) in
        let last : take k' all ≡ before ++ es = ap (λ (m : ℕ). take m all) p.next_span ∙ n.are in
        record {
          terms =
              p.terms ∙ (λ j. written (so.terms j) (so.next j) (flat es))
              ∙ over_written old (flat before) (flat es) long_all
              ∙ ap (over old) (sym flat_all ∙ ap (λ (m : ℕ). flat (take m all)) (sym p.next_span));
          spans =
              p.spans ∙ (λ j. written (so.spans j) (sym front_all j) (spans_from (from j) es))
              ∙ over_written olds (spans_from 0 before) (spans_from (0 + length (flat before)) es) (omega (arith, n.within, front_all, length_spans (0 + length (flat before)) es))
              ∙ ap (over olds) (sym (spans_append 0 before es) ∙ ap (spans_from 0) (sym last));
          next = omega (arith, p.next_term, so.next, ap (λ (m : ℕ). length (flat (take m all))) p.next_span, ap length flat_all, length-append (flat before) (flat es));
        }
