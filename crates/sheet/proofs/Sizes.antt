-- How much the tables hold.
use Rattle.std.proofs.Common.{◌≡◌, length, arith}
use Rattle.std.specs.List.{sum}
use Rattle.std.proofs.lemmas.List.{length-map}
use Rattle.netlist.specs.Domains.{domain_number}
use Rattle.netlist.specs.Netlist.{term_count}
use Rattle.netlist.proofs.Cuts.{length_pieces, count_pieces}
use Rattle.sheet.specs.declared.laws.LawTable.{LawTable}
use Rattle.sheet.specs.declared.tables.Tables.TheInside.{Inside}
use Rattle.sheet.specs.Held.{laws_of, netlist_of}
use Rattle.sheet.specs.Tiling.{lengths}
use Rattle.sheet.proofs.Tiling.{Tiles, tiles_of, tiles_sum}

module _ (t : LawTable) where
  pub table_tiles : Tiles 0 t.spans.items t.terms.len
  table_tiles = tiles_of 0 t.spans.items t.terms.len t.tiled

  pub table_cut : sum (lengths t.spans.items) ≡ length t.terms.items
  table_cut = omega (arith, tiles_sum 0 t.spans.items t.terms.len table_tiles, t.terms.ok.0)

  pub law_count : length (laws_of t) ≡ t.spans.len
  law_count = omega (arith, length_pieces (lengths t.spans.items) t.terms.items, length-map t.spans.items (λ s. s.length))

  pub term_count_of : term_count (laws_of t) ≡ t.terms.len
  term_count_of = omega (arith, count_pieces (lengths t.spans.items) t.terms.items table_cut)

pub node_count : (t : Inside) → length (netlist_of t).domains ≡ t.domains.len
node_count t = omega (arith, length-map t.domains.items domain_number)
