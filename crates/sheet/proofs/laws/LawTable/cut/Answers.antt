use Rattle.std.proofs.Common.{◌≡◌, ◌<◌, ◌∙◌, ℕ, ap, sym, subst, arith, length, take, get_or}
use Rattle.std.proofs.lemmas.List.{take_all, take-map}
use Rattle.netlist.specs.declared.spans.Span.{Span}
use Rattle.netlist.specs.Pieces.{pieces}
use Rattle.netlist.specs.Sound.{names, is_sized, is_term_count}
use Rattle.netlist.proofs.Every.{every_take}
use Rattle.sheet.specs.Held.{laws_of}
use Rattle.sheet.specs.Tiling.{lengths}
use Rattle.sheet.proofs.Cutting.{laws_cut}
use Rattle.sheet.proofs.Sizes.{table_tiles, law_count}
use Rattle.sheet.proofs.Tiling.{Tiles, tile_from, tiles_take, tiles_within}
use Rattle.sheet.proofs.laws.LawTable.cut.Goals as goal

pub invariant_of-self : goal.invariant_of-self
invariant_of-self c =
    let t = c.args.self.now in
    let k = c.args.laws in
    let spans = t.spans.items in
    let span = c.index.result.now in
    let few : k < length spans = omega (arith, c.if-laws-len.true) in
    let begins = ap (λ (s : Span). s.offset) c.index.ensures in
    let within = tiles_within 0 spans t.terms.len k span (table_tiles t) few in
    let laws = c.truncate-then-laws-len.ensures in
    let terms = c.truncate.ensures in
    let end : (get_or spans k span).offset ≡ c.truncate.new.self.len = omega (arith, begins, within, terms.len) in
    let front = subst (λ (n : ℕ). Tiles 0 (take k spans) n) end (tiles_take 0 spans t.terms.len k span (table_tiles t) few) in
    let cut : lengths (take k spans) ≡ take k (lengths spans) = sym (take-map (λ (s : Span). s.length) k spans) in
    record {
      laws_fit = (omega (arith, laws.len), omega (arith, laws.capacity));
      terms_fit = (omega (arith, terms.len), omega (arith, terms.capacity));
      tiled = simp laws.items (tile_from 0 _ _ front);
      counted = simp (laws.items, cut) (every_take is_term_count k (lengths spans) t.counted);
      sized = simp terms.items (every_take is_sized _ t.terms.items t.sized);
    }

pub returns-then-laws-len-clause-laws : goal.returns-then-laws-len-clause-laws
returns-then-laws-len-clause-laws c =
    let t = c.args.self.now in
    let k = c.args.laws in
    let span = c.index.result.now in
    let few : k < length t.spans.items = omega (arith, c.if-laws-len.true) in
    let begins = ap (λ (s : Span). s.offset) c.index.ensures in
    let laws = c.truncate-then-laws-len.ensures in
    let terms = c.truncate.ensures in
    (λ i. pieces (lengths (laws.items i)) (terms.items i))
    ∙ (λ i. pieces (lengths (take k t.spans.items)) (take (begins i) t.terms.items))
    ∙ laws_cut t.spans.items t.terms.items t.terms.len k span (table_tiles t) few

pub returns-then-laws-len-clause-named : goal.returns-then-laws-len-clause-named
returns-then-laws-len-clause-named c n h = rw c.truncate.ensures.items (every_take (names n) _ c.args.self.now.terms.items h)

pub returns-else-laws-len-clause-laws : goal.returns-else-laws-len-clause-laws
returns-else-laws-len-clause-laws c =
    let t = c.args.self.now in
    let few = c.if-laws-len.false in
    sym (take_all c.args.laws (laws_of t) (omega (arith, law_count t)))
