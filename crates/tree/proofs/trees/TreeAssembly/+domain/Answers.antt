use Rattle.std.proofs.Common.{ap, ◌∙◌}
use Rattle.std.specs.List.{slice_get}
use Rattle.assembly.specs.Meaning.{Meaning, domains_of}
use Rattle.repeat.proofs.InCopies.{domain_end, domain_copied, domain_joint, domain_past}
use Rattle.tree.proofs.Nodes.{as_copies, as_copied}
use Rattle.tree.proofs.trees.TreeAssembly.+domain.Goals as goal

pub returns-then-node-lt2 : goal.returns-then-node-lt2
returns-then-node-lt2 t c =
    let is = as_copied c.self.view_is c.self.invariant c.in-Repeat.is c.in_ok-copies-in-Repeat.copies (cc) in
    let whole = ap (λ (w : Meaning). slice_get (domains_of w) c.args.node) (as_copies c.self.view_is c.self.invariant c.in-Repeat.is) in
    rw (c.domain-then-node-lt2.ensures, c.deref-then-node-lt2.ensures) (domain_end _ is c.args.node c.if-node-lt2.true ∙ whole)

pub returns-in-Some : goal.returns-in-Some
returns-in-Some t c =
    let is = as_copied c.self.view_is c.self.invariant c.in-Repeat.is c.in_ok-copies-in-Repeat.copies (cc) in
    let whole = ap (λ (w : Meaning). slice_get (domains_of w) c.args.node) (as_copies c.self.view_is c.self.invariant c.in-Repeat.is) in
    rw (c.domain-in-Some.ensures, c.deref-in-Some.ensures) (domain_copied _ is c.args.node c.if-node-lt2.false c.in-Some.s c.in-Some.ensures.at ∙ whole)

pub returns-in-None : goal.returns-in-None
returns-in-None t c =
    let is = as_copied c.self.view_is c.self.invariant c.in-Repeat.is c.in_ok-copies-in-Repeat.copies (cc) in
    let whole = ap (λ (w : Meaning). slice_get (domains_of w) c.args.node) (as_copies c.self.view_is c.self.invariant c.in-Repeat.is) in
    rw (c.domain-in-None.ensures, c.deref-in-None.ensures) (domain_joint _ is c.args.node c.if-node-lt2.false c.in-None.ensures c.if-node-copies.true ∙ whole)

pub returns-in-None-2 : goal.returns-in-None-2
returns-in-None-2 t c =
    let is = as_copied c.self.view_is c.self.invariant c.in-Repeat.is c.in_ok-copies-in-Repeat.copies (cc) in
    let whole = ap (λ (w : Meaning). slice_get (domains_of w) c.args.node) (as_copies c.self.view_is c.self.invariant c.in-Repeat.is) in
    domain_past _ is c.args.node c.if-node-lt2.false c.if-node-copies.false ∙ whole
