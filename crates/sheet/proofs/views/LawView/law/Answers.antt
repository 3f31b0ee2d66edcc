use Rattle.std.proofs.Common.{◌≡◌, ◌<◌, ◌+◌, ◌-◌, get_or, take, drop, length, sym, ◌∙◌, arith}
use Rattle.netlist.specs.declared.spans.Span.{Span}
use Rattle.sheet.proofs.Tiling.{law_count_in, law_at}
use Rattle.sheet.proofs.views.LawView.law.Goals as goal

pub returns : goal.returns
returns c =
    let view = c.args.self.now in
    let k = c.args.k in
    let d : Span = record { offset = 0; length = 0 } in
    let span = get_or view.spans.now k d in
    let within : k < length view.spans.now = omega (arith, c.if-k-self.false) in
    let long : span.offset + span.length - span.offset ≡ span.length = omega arith in
    (omega (arith, law_count_in view), (λ i. take (long i) (drop span.offset view.terms.now)) ∙ sym (law_at view k d within))
