-- Laws that lie one behind another in the table of their terms.
use Rattle.std.proofs.Common.{◌≡◌, true, eqb, ℕ, zero, suc, ◌+◌, ◌<◌, ◌≤◌, List, [], ◌∷◌, ◌++◌, length, get_or, take, drop, sym, ap, ◌∙◌, arith}
use Rattle.std.specs.List.{sum}
use Rattle.std.proofs.lemmas.List.{length-map, drop-drop}
use Rattle.std.proofs.lemmas.Bool.{and_parts, and_from, eqb-true, eq-eqb}
use Rattle.netlist.specs.declared.spans.Span.{Span}
use Rattle.netlist.specs.declared.terms.Term.{Term}
use Rattle.netlist.specs.Netlist.{term_count}
use Rattle.netlist.specs.Pieces.{pieces}
use Rattle.netlist.proofs.Cuts.{sum_cons, length_pieces, count_pieces}
use Rattle.sheet.specs.declared.views.LawView.{LawView}
use Rattle.sheet.specs.Tiling.{tile, lengths}
use Rattle.sheet.specs.Views.{laws_in}

abbrev pub Tiles : ℕ → List Span → ℕ → Type 0
Tiles at [] end = at ≡ end
Tiles at (s ∷ ss) end = (s.offset ≡ at) × Tiles (at + s.length) ss end

pub tiles_of : (at : ℕ) (spans : List Span) (end : ℕ) → tile at spans end ≡ true → Tiles at spans end
tiles_of at [] end h = eqb-true at end h
tiles_of at (s ∷ ss) end h =
    let both = and_parts (eqb s.offset at) (tile (at + s.length) ss end) h in
    (eqb-true s.offset at both.0, tiles_of (at + s.length) ss end both.1)

pub tile_from : (at : ℕ) (spans : List Span) (end : ℕ) → Tiles at spans end → tile at spans end ≡ true
tile_from at [] end h = eq-eqb at end h
tile_from at (s ∷ ss) end h = and_from _ _ (eq-eqb s.offset at h.0) (tile_from (at + s.length) ss end h.1)

pub tiles_sum : (at : ℕ) (spans : List Span) (end : ℕ) → Tiles at spans end → at + sum (lengths spans) ≡ end
tiles_sum at [] end h = omega (arith, h)
tiles_sum at (s ∷ ss) end h = omega (arith, sum_cons s.length (lengths ss), tiles_sum (at + s.length) ss end h.1)

-- each law lies in the table
pub tiles_within : (at : ℕ) (spans : List Span) (end k : ℕ) (d : Span) → Tiles at spans end → k < length spans → (get_or spans k d).offset + (get_or spans k d).length ≤ end
tiles_within at [] end k d h l = absurd (omega arith)
tiles_within at (s ∷ ss) end zero d h l = omega (arith, h.0, tiles_sum (at + s.length) ss end h.1)
tiles_within at (s ∷ ss) end (suc k) d h l = tiles_within (at + s.length) ss end k d h.1 (omega arith)

-- a law more
pub tiles_push : (at : ℕ) (spans : List Span) (end n : ℕ) → Tiles at spans end → Tiles at (spans ++ record { offset = end; length = n } ∷ []) (end + n)
tiles_push at [] end n h = (sym h, ap (λ (k : ℕ). k + n) h)
tiles_push at (s ∷ ss) end n h = (h.0, tiles_push (at + s.length) ss end n h.1)

-- the first laws end where the next one begins
pub tiles_take : (at : ℕ) (spans : List Span) (end k : ℕ) (d : Span) → Tiles at spans end → k < length spans → Tiles at (take k spans) (get_or spans k d).offset
tiles_take at [] end k d h l = absurd (omega arith)
tiles_take at (s ∷ ss) end zero d h l = sym h.0
tiles_take at (s ∷ ss) end (suc k) d h l = (h.0, tiles_take (at + s.length) ss end k d h.1 (omega arith))

-- a law is found by where it begins
pub piece_at : (ts : List Term) (at : ℕ) (spans : List Span) (end k : ℕ) (d : Span) → Tiles at spans end → k < length spans → get_or (pieces (lengths spans) (drop at ts)) k [] ≡ take (get_or spans k d).length (drop (get_or spans k d).offset ts)
piece_at ts at [] end k d h l = absurd (omega arith)
piece_at ts at (s ∷ ss) end zero d h l = ap (λ (i : ℕ). take s.length (drop i ts)) (sym h.0)
piece_at ts at (s ∷ ss) end (suc k) d h l =
    ap (λ (us : List Term). get_or (pieces (lengths ss) us) k []) (drop-drop s.length at ts)
    ∙ piece_at ts (at + s.length) ss end k d h.1 (omega arith)

pub view_tiles : (view : LawView) → Tiles 0 view.spans.now (length view.terms.now)
view_tiles view = tiles_of 0 view.spans.now (length view.terms.now) view.tiled

-- what a view counts
pub law_count_in : (view : LawView) → length (laws_in view) ≡ length view.spans.now
law_count_in view = length_pieces (lengths view.spans.now) view.terms.now ∙ length-map view.spans.now (λ s. s.length)

pub term_count_in : (view : LawView) → term_count (laws_in view) ≡ length view.terms.now
term_count_in view = count_pieces (lengths view.spans.now) view.terms.now (omega (arith, tiles_sum 0 view.spans.now (length view.terms.now) (view_tiles view)))

-- and how it finds a law
pub span_within : (view : LawView) (k : ℕ) (d : Span) → k < length view.spans.now → (get_or view.spans.now k d).offset + (get_or view.spans.now k d).length ≤ length view.terms.now
span_within view k d h = tiles_within 0 view.spans.now (length view.terms.now) k d (view_tiles view) h

pub law_at : (view : LawView) (k : ℕ) (d : Span) → k < length view.spans.now → get_or (laws_in view) k [] ≡ take (get_or view.spans.now k d).length (drop (get_or view.spans.now k d).offset view.terms.now)
law_at view k d h = piece_at view.terms.now 0 view.spans.now (length view.terms.now) k d (view_tiles view) h
