use Rattle.std.proofs.Common.{[], ◌∷◌, ◌++◌, length, refl, ◌∙◌, arith}
use Rattle.netlist.specs.Pieces.{pieces}
use Rattle.netlist.specs.Sound.{is_sized}
use Rattle.netlist.proofs.Every.{every_append}
use Rattle.sheet.specs.Held.{laws_of}
use Rattle.sheet.specs.Tiling.{lengths}
use Rattle.sheet.proofs.Adding.{tiled_more, counted_more, laws_more}
use Rattle.sheet.proofs.Fitting.{laws_left, terms_left}
use Rattle.sheet.proofs.Sizes.{law_count, term_count_of}
use Rattle.sheet.proofs.laws.LawTable.add.Goals as goal

pub unwrap-requires : goal.unwrap-requires
unwrap-requires c =
    let t = c.args.self.now in
    c.extend_from_slice.ensures.succeeds (omega (arith, term_count_of t, terms_left (laws_of t) _ c.requires.room))

pub push_reserved-requires : goal.push_reserved-requires
push_reserved-requires c =
    let t = c.args.self.now in
    omega (arith, law_count t, laws_left (laws_of t) _ c.requires.room)

pub invariant_of-self : goal.invariant_of-self
invariant_of-self c =
    let t = c.args.self.now in
    let n = length c.args.law.now in
    let laws = law_count t in
    let terms = term_count_of t in
    let law-room = laws_left (laws_of t) _ c.requires.room in
    let term-room = terms_left (laws_of t) _ c.requires.room in
    let items = rw c.unwrap.ensures at c.extend_from_slice.ensures.items in
    let len = rw c.unwrap.ensures at c.extend_from_slice.ensures.len in
    record {
      laws_fit = (omega arith, omega arith);
      terms_fit = (omega arith, omega arith);
      tiled = simp (c.push_reserved.ensures.items, len, c.len.ensures) (tiled_more t n);
      counted = simp (c.push_reserved.ensures.items, c.len.ensures) (counted_more t n c.requires.count);
      sized = simp items (every_append is_sized t.terms.items c.args.law.now t.sized c.requires.sized);
    }

pub returns-clause-laws : goal.returns-clause-laws
returns-clause-laws c =
    let t = c.args.self.now in
    let n = length c.args.law.now in
    let items = rw c.unwrap.ensures at c.extend_from_slice.ensures.items in
    (λ i. pieces (lengths (c.push_reserved.ensures.items i)) (items i))
    ∙ (λ i. pieces (lengths (t.spans.items ++ record { offset = c.len.ensures i; length = n } ∷ [])) (t.terms.items ++ c.args.law.now))
    ∙ laws_more t n c.args.law.now refl
