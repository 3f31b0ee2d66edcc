use Rattle.std.proofs.Common.{length, ap, ◌∙◌}
use Rattle.std.specs.List.{slice_get}
use Rattle.std.specs.Option.{option_map}
use Rattle.assembly.specs.Meaning.{Meaning, laws_of}
use Rattle.layers.proofs.Asked.{front_len, back_len}
use Rattle.repeat.proofs.InCopies.{len_copied, len_past}
use Rattle.tree.proofs.Nodes.{two_joins, as_copies, as_copied}
use Rattle.tree.proofs.trees.TreeAssembly.+law_len.Goals as goal

pub returns-then-k-before : goal.returns-then-k-before
returns-then-k-before t c =
    let is = two_joins c.self.view_is c.self.invariant c.in-Two.is c.in_ok-before-in-Two.field-0 (cc) in
    rw (c.law_len-then-k-before.ensures, c.deref.ensures) (front_len is c.args.k c.if-k-before.true)

pub returns-else-k-before : goal.returns-else-k-before
returns-else-k-before t c =
    let is = two_joins c.self.view_is c.self.invariant c.in-Two.is c.in_ok-before-in-Two.field-0 (cc) in
    rw (c.law_len-else-k-before.ensures, c.deref-else-k-before.ensures) (back_len is c.args.k c.if-k-before.false)

pub returns-in_err-s-in-Repeat : goal.returns-in_err-s-in-Repeat
returns-in_err-s-in-Repeat t c =
    let is = as_copied c.self.view_is c.self.invariant c.in-Repeat.is c.in_ok-copies-in-Repeat.copies (cc) in
    let whole = ap (λ (w : Meaning). option_map length (slice_get (laws_of w) c.args.k)) (as_copies c.self.view_is c.self.invariant c.in-Repeat.is) in
    c.from_residual-in_err-s-in-Repeat.ensures ∙ len_past _ is c.args.k c.in_err-s-in-Repeat.ensures ∙ whole

pub returns-in_ok-s-in-Repeat : goal.returns-in_ok-s-in-Repeat
returns-in_ok-s-in-Repeat t c =
    let is = as_copied c.self.view_is c.self.invariant c.in-Repeat.is c.in_ok-copies-in-Repeat.copies (cc) in
    let whole = ap (λ (w : Meaning). option_map length (slice_get (laws_of w) c.args.k)) (as_copies c.self.view_is c.self.invariant c.in-Repeat.is) in
    rw (c.law_len-in-Repeat.ensures, c.deref-in-Repeat.ensures) (len_copied _ is c.args.k c.in_ok-s-in-Repeat.s c.in_ok-s-in-Repeat.ensures.at ∙ whole)
