use Rattle.std.proofs.Common.{ℕ, List, [], ◌∷◌, ◌++◌, map, sym, ap, ◌∙◌, arith}
use Rattle.std.proofs.lemmas.List.{append_assoc, map_more, take_all}
use Rattle.std.proofs.lemmas.Bool.{not-true, or_parts, ltb-false}
use Rattle.netlist.specs.declared.terms.RawTerm.{RawTerm}
use Rattle.netlist.specs.declared.terms.Term.{Term}
use Rattle.netlist.specs.Netlist.{term_of}
use Rattle.netlist.specs.Sound.{is_sized}
use Rattle.netlist.proofs.Every.{every_at, every_map}
use Rattle.sheet.proofs.laws.raw.append.Goals as goal

pub accepted-requires : goal.accepted-requires
accepted-requires c =
    let ts = c.args.terms.now in
    let here = every_at (λ (t : RawTerm ℕ). is_sized (term_of t)) ts c.loop-raw.raw-index _ c.loop-raw-test.true (sym (every_map is_sized term_of ts) ∙ c.requires.sized) in
    ltb-false 1000000 _ (or_parts _ _ (not-true _ here)).1

pub loop-raw-preserved : goal.loop-raw-preserved
loop-raw-preserved c =
    let inv = c.loop-raw.invariant in
    let held = c.args.to.now.items in
    let more = map_more term_of c.args.terms.now c.loop-raw.raw-index _ c.loop-raw-test.true in (
      c.push_reserved.ensures.items ∙ (λ i. inv.0 i ++ (c.accepted.ensures i ∷ [])) ∙ append_assoc held _ _ ∙ ap (λ (xs : List Term). held ++ xs) (sym more),
      omega arith,
      omega arith,
    )

pub returns : goal.returns
returns c =
    let inv = c.loop-raw.invariant in
    record {
      items = inv.0 ∙ ap (λ (xs : List (RawTerm ℕ)). c.args.to.now.items ++ map term_of xs) (take_all _ _ c.loop-raw-test.false);
      len = omega arith;
      capacity = inv.2;
    }
