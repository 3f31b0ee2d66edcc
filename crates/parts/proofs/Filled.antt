-- What parts keep to that fill a table.
use Rattle.std.proofs.Common.{◌≡◌, ℕ, zero, suc, ◌+◌, ◌<◌, ◌≤◌, true, eqb, List, [], ◌∷◌, ◌++◌, map, length, get_or, take, drop, sym, refl, ◌∙◌, arith}
use Rattle.std.proofs.lemmas.List.{length-take, length-drop, drop-drop, drop_all, take-append-drop}
use Rattle.std.proofs.lemmas.Bool.{and_parts, eqb-true}
use Rattle.netlist.specs.declared.spans.Span.{Span}
use Rattle.netlist.specs.Pieces.{flat}
use Rattle.netlist.specs.Sound.{is_term_count}
use Rattle.std.specs.List.{list_all}
use Rattle.assembly.specs.Plans.{PlanTerm}
use Rattle.parts.specs.Tables.{begins, fill, law_in}

-- parts fill on from where they begin
fill_le : (at : ℕ) (ss : List Span) (n : ℕ) → fill at ss n ≡ true → at ≤ n
fill_le at [] n h = grind arith
fill_le at (s ∷ ss) n h = grind (arith, fill_le (at + s.length) ss n)

-- the first part ends where the others begin, or the table ends
first_within : (at : ℕ) (s : Span) (ss : List Span) (n : ℕ) → fill at (s ∷ ss) n ≡ true → s.offset + s.length ≤ n
first_within at s ss n h = grind (arith, fill_le (at + s.length) ss n)

-- each part lies in the table
pub part_within : (at : ℕ) (ss : List Span) (n k : ℕ) (d : Span) → fill at ss n ≡ true → k < length ss → (get_or ss k d).offset + (get_or ss k d).length ≤ n
part_within at [] n k d h within = absurd (omega arith)
part_within at (s ∷ ss) n zero d h within = first_within at s ss n h
part_within at (s ∷ ss) n (suc k) d h within = grind (arith, part_within (at + s.length) ss n k d)

-- and has one to eight terms
pub law_lengths : (terms : List PlanTerm) (at : ℕ) (ss : List Span) → fill at ss (length terms) ≡ true → list_all is_term_count (map length (map (law_in terms) ss)) ≡ true
law_lengths terms at [] h = refl
law_lengths terms at (s ∷ ss) h =
    let all : length (law_in terms s) ≡ s.length = simp (length-take, length-drop) (omega (arith, first_within at s ss (length terms) h)) in
    grind (arith, all, law_lengths terms (at + s.length) ss)

-- together they are the whole table, from where they begin
pub flat_filled : (terms : List PlanTerm) (at : ℕ) (ss : List Span) → fill at ss (length terms) ≡ true → flat (map (law_in terms) ss) ≡ drop at terms
flat_filled terms at [] h = let e = eqb-true at (length terms) h in sym (drop_all at terms (omega arith))
flat_filled terms at (s ∷ ss) h =
    let both = and_parts (begins at s) (fill (at + s.length) ss (length terms)) h in
    let e = eqb-true s.offset at (and_parts (eqb s.offset at) _ both.0).0 in
    let rest = flat_filled terms (at + s.length) ss both.1 ∙ sym (drop-drop s.length at terms) in
    (λ i. take s.length (drop (e i) terms) ++ rest i) ∙ take-append-drop s.length (drop at terms)
