use Rattle.std.proofs.Common.{refl, ap, ◌∙◌}
use Rattle.std.specs.List.{slice_get}
use Rattle.assembly.specs.Meaning.{Meaning, rows_of}
use Rattle.layers.proofs.Asked.{front_row, back_row}
use Rattle.repeat.proofs.InCopies.{row_copied, row_past}
use Rattle.tree.proofs.Nodes.{two_joins, as_copies, as_copied}
use Rattle.tree.proofs.trees.TreeAssembly.+row.Goals as goal

pub returns-then-k-before : goal.returns-then-k-before
returns-then-k-before t c =
    let is = two_joins c.self.view_is c.self.invariant c.in-Two.is c.in_ok-parts-in-Two.parts (cc) in
    rw (c.row-then-k-before-2.ensures, c.front.ensures, c.row-then-k-before.ensures, c.deref.ensures) (front_row is c.args.k c.if-k-before.true)

pub returns-else-k-before : goal.returns-else-k-before
returns-else-k-before t c =
    let is = two_joins c.self.view_is c.self.invariant c.in-Two.is c.in_ok-parts-in-Two.parts (cc) in
    rw (c.row-else-k-before-2.ensures, c.back.ensures, c.row-else-k-before.ensures, c.deref-else-k-before.ensures) (back_row is c.args.k c.if-k-before.false)

pub returns-in_err-s-in-Repeat : goal.returns-in_err-s-in-Repeat
returns-in_err-s-in-Repeat t c =
    let is = as_copied c.self.view_is c.self.invariant c.in-Repeat.is c.in_ok-copies-in-Repeat.copies (cc) in
    let whole = ap (λ (w : Meaning). slice_get (rows_of w) c.args.k) (as_copies c.self.view_is c.self.invariant c.in-Repeat.is) in
    c.from_residual-in_err-s-in-Repeat.ensures ∙ row_past _ is c.args.k c.in_err-s-in-Repeat.ensures ∙ whole

pub returns-in_ok-s-in-Repeat : goal.returns-in_ok-s-in-Repeat
returns-in_ok-s-in-Repeat t c =
    let is = as_copied c.self.view_is c.self.invariant c.in-Repeat.is c.in_ok-copies-in-Repeat.copies (cc) in
    let whole = ap (λ (w : Meaning). slice_get (rows_of w) c.args.k) (as_copies c.self.view_is c.self.invariant c.in-Repeat.is) in
    let at = c.in_ok-s-in-Repeat.ensures in
    row_copied _ is c.args.k c.in_ok-s-in-Repeat.s at.at at.numbers_are (rw (c.row-in-Repeat.ensures, c.deref-in-Repeat.ensures) refl) c.row-in-Repeat-2.ensures ∙ whole
