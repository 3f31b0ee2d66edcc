-- A law of n terms more in a table.
use Rattle.std.proofs.Common.{◌≡◌, ℕ, ◌+◌, true, List, [], ◌∷◌, ◌++◌, length, sym, ap, ◌∙◌}
use Rattle.std.specs.List.{list_all}
use Rattle.std.proofs.lemmas.List.{map_push}
use Rattle.netlist.specs.declared.spans.Span.{Span}
use Rattle.netlist.specs.declared.terms.Term.{Term}
use Rattle.netlist.specs.Pieces.{pieces}
use Rattle.netlist.specs.Sound.{is_term_count}
use Rattle.netlist.proofs.Cuts.{pieces_push}
use Rattle.netlist.proofs.Every.{every_push}
use Rattle.sheet.specs.declared.laws.LawTable.{LawTable}
use Rattle.sheet.specs.Held.{laws_of}
use Rattle.sheet.specs.Tiling.{tile, lengths}
use Rattle.sheet.proofs.Sizes.{table_tiles, table_cut}
use Rattle.sheet.proofs.Tiling.{tile_from, tiles_push}

module _ (t : LawTable) (n : ℕ) where
  abbrev pub spans_more : List Span
  spans_more = t.spans.items ++ record { offset = t.terms.len; length = n } ∷ []

  lengths_more : lengths spans_more ≡ lengths t.spans.items ++ n ∷ []
  lengths_more = map_push (λ (s : Span). s.length) t.spans.items (record { offset = t.terms.len; length = n })

  pub tiled_more : tile 0 spans_more (t.terms.len + n) ≡ true
  tiled_more = tile_from 0 spans_more (t.terms.len + n) (tiles_push 0 t.spans.items t.terms.len n (table_tiles t))

  pub counted_more : is_term_count n ≡ true → list_all is_term_count (lengths spans_more) ≡ true
  counted_more h = simp lengths_more (every_push is_term_count (lengths t.spans.items) n t.counted h)

  pub laws_more : (law : List Term) → length law ≡ n → pieces (lengths spans_more) (t.terms.items ++ law) ≡ laws_of t ++ law ∷ []
  laws_more law long =
      ap (λ (ns : List ℕ). pieces ns (t.terms.items ++ law)) lengths_more
      ∙ ap (λ (k : ℕ). pieces (lengths t.spans.items ++ k ∷ []) (t.terms.items ++ law)) (sym long)
      ∙ pieces_push (lengths t.spans.items) t.terms.items law (table_cut t)
