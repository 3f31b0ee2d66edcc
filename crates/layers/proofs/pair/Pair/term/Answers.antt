use Rattle.std.proofs.Common.{map, sym, ap, ◌∙◌}
use Rattle.std.specs.Option.{option_map}
use Rattle.std.proofs.lemmas.List.{length-map}
use Rattle.assembly.specs.Meaning.{laws_of}
use Rattle.layers.specs.Renumbered.{moved_term}
use Rattle.layers.proofs.Laws.{terms_behind}
use Rattle.layers.proofs.pair.Pair.term.Goals as goal

pub returns-else-k-before : goal.returns-else-k-before
returns-else-k-before g c =
    let m = g.A.Assembly.meaning c.args.self.now.first.now in
    let n = g.B.Assembly.meaning c.args.self.now.second.now in
    let front = map (moved_term c.args.self.now.front) in
    c.term-else-k-before-2.ensures ∙ ap (option_map (moved_term c.args.self.now.back)) c.term-else-k-before.ensures
    ∙ terms_behind (moved_term c.args.self.now.back) (map front (laws_of m)) (laws_of n) _ c.args.k c.args.t
    (c.args.self.now.laws_before ∙ sym (length-map (laws_of m) front)) c.if-k-before.false
