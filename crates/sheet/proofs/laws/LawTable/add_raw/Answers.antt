use Rattle.std.proofs.Common.{[], ◌∷◌, ◌++◌, map, length, ◌∙◌, arith}
use Rattle.std.proofs.lemmas.List.{length-map}
use Rattle.netlist.specs.Netlist.{term_of}
use Rattle.netlist.specs.Pieces.{pieces}
use Rattle.netlist.specs.Sound.{is_sized}
use Rattle.netlist.proofs.Every.{every_append}
use Rattle.sheet.specs.Held.{laws_of}
use Rattle.sheet.specs.Tiling.{lengths}
use Rattle.sheet.proofs.Adding.{tiled_more, counted_more, laws_more}
use Rattle.sheet.proofs.Fitting.{laws_left, terms_left}
use Rattle.sheet.proofs.Sizes.{law_count, term_count_of}
use Rattle.sheet.proofs.laws.LawTable.add_raw.Goals as goal

pub append-requires-clause-room : goal.append-requires-clause-room
append-requires-clause-room c =
    let t = c.args.self.now in
    omega (arith, term_count_of t, terms_left (laws_of t) _ c.requires.room)

pub push_reserved-requires : goal.push_reserved-requires
push_reserved-requires c =
    let t = c.args.self.now in
    omega (arith, law_count t, laws_left (laws_of t) _ c.requires.room)

pub invariant_of-self : goal.invariant_of-self
invariant_of-self c =
    let t = c.args.self.now in
    let n = length c.args.terms.now in
    let laws = law_count t in
    let terms = term_count_of t in
    let law-room = laws_left (laws_of t) _ c.requires.room in
    let term-room = terms_left (laws_of t) _ c.requires.room in
    record {
      laws_fit = (omega arith, omega arith);
      terms_fit = (omega arith, omega arith);
      tiled = simp (c.push_reserved.ensures.items, c.append.ensures.len, c.len.ensures) (tiled_more t n);
      counted = simp (c.push_reserved.ensures.items, c.len.ensures) (counted_more t n c.requires.count);
      sized = simp c.append.ensures.items (every_append is_sized t.terms.items (map term_of c.args.terms.now) t.sized c.requires.sized);
    }

pub returns-clause-laws : goal.returns-clause-laws
returns-clause-laws c =
    let t = c.args.self.now in
    let n = length c.args.terms.now in
    (λ i. pieces (lengths (c.push_reserved.ensures.items i)) (c.append.ensures.items i))
    ∙ (λ i. pieces (lengths (t.spans.items ++ record { offset = c.len.ensures i; length = n } ∷ [])) (t.terms.items ++ map term_of c.args.terms.now))
    ∙ laws_more t n (map term_of c.args.terms.now) (length-map c.args.terms.now term_of)
