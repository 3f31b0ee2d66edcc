use Rattle.std.proofs.Common.{ℕ, List, ◌∙◌, ap, length}
use Rattle.text.specs.Newlines.{lines_of}
use Rattle.text.proofs.Ends.{all_taken, line_count}
use Rattle.text.proofs.split.count_lines.Goals as goal

pub returns : goal.returns
returns c =
    let told = c.count.ensures.ran in
    line_count c.args.text.now _ (told.2 ∙ all_taken told.0 c.lines.result told.1 ∙ ap (λ (x : List ℕ). length (lines_of x)) c.lines.ensures.0)
