use Rattle.std.proofs.Common.{refl, ap, ◌∙◌, inl, inr, arith, rules, true-eqb, false-eqb}
use Rattle.std.proofs.lemmas.List.{nil_from_length}
use Rattle.text.specs.Newlines.{lines_of}
use Rattle.text.proofs.Pieces.{cut_none}
use Rattle.text.proofs.Ends.{Past, first_line, first_listed, rest_shorter}
use Rattle.text.proofs.split.TextLinesIterator.next.Goals as goal
use Rattle.text.proofs.split.TextLinesIterator.next.Goals.{then-end-rest, else-end-rest}
use Rattle.std.proofs.iter.Next.{firm}

pub returns-then-is_empty : goal.returns-then-is_empty
returns-then-is_empty c =
    let empty = nil_from_length c.args.self.now.rest.now (true-eqb _ 0 c.if-is_empty.ensures) in
    record {
      steps = record { empty = empty; listed = ap lines_of empty ∙ cut_none 10; rest_empty = empty; count = refl };
      goes = firm (tt) (λ h. search rules);
    }

pub returns : goal.returns
returns c =
    let text = c.args.self.now.rest.now in
    let told = c.place_of-end.ensures in
    let some = false-eqb _ 0 c.if-is_empty.ensures in
    let past : Past text c.place_of-end.result c.if-end-rest.next =
    elim c.if-end-rest.branch [ then-end-rest w ↦ inl (w.if-end-rest.true, w.next-is) | else-end-rest w ↦ inr (w.if-end-rest.false, w.next-is) ] in
    let first = first_line text _ _ (omega arith) told.within told.before told.found past in
    record {
      steps = record { first = first; listed = first_listed text _ _ first; number = refl; count = refl };
      goes = firm ((tt, tt, rest_shorter text _ _ (omega arith) told.within past)) (λ h. search rules);
    }
