use Rattle.std.proofs.Common.{◌≡◌, length, ◌∙◌, rules}
use Rattle.std.proofs.lemmas.List.{take_at}
use Rattle.equation.specs.Listing.{listing_of}
use Rattle.printing.proofs.Parts.{all_spans}
use Rattle.printing.proofs.sheets.print_sheet.Goals as goal

pub put_lines-requires-clause-spans : goal.put_lines-requires-clause-spans
put_lines-requires-clause-spans c =
    let b = c.args.sheet.now in
    let fits : length c.deref_mut.result.now ≡ (listing_of b).terms = search rules in
    let many : length c.deref_mut-2.result.now ≡ (listing_of b).equations = search rules in
    let spans = c.equations.ensures.spans ∙ all_spans b c.deref_mut.result.now c.deref_mut-2.result.now fits many in
    let long : length c.equations.new.spans ≡ c.in_ok-spans.spans.len = search rules in
    c.deref-2.ensures.value ∙ take_at c.equations.new.spans _ c.in_ok-spans.spans.len long ∙ spans
