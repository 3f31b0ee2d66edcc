use Rattle.std.proofs.Common.{◌≡◌, ℕ, ◌<◌, [], ◌∷◌, map, take, length, Some, None, Option, sym, ap, ◌∙◌, arith}
use Rattle.std.specs.List.{slice_get}
use Rattle.std.proofs.lemmas.List.{length-append, length-map, length-take-le}
use Rattle.draft.specs.declared.refusals.DraftRefusal.{DraftRefusal}
use Rattle.netlist.specs.Domains.{domain_number}
use Rattle.netlist.specs.Limits.{most_nodes}
use Rattle.netlist.specs.Netlist.{Netlist, with_nodes}
use Rattle.draft.specs.Rules.{judge_node}
use Rattle.refusal.specs.Tests.{after}
use Rattle.draft.proofs.Rooms.{node_left}
use Rattle.place.specs.Parts.{plan_of}
use Rattle.place.proofs.Drawn.{node_more}
use Rattle.place.proofs.Plans.{inner_at}
use Rattle.place.proofs.drawing.draw_nodes.Goals as goal

pub loop-j-preserved : goal.loop-j-preserved
loop-j-preserved g c =
    let m = g.A.Assembly.meaning c.args.part.now in
    let inner = (plan_of m).inner in
    let old = c.args.draft.now in
    let b = c.loop-j.draft in
    let j = c.loop-j.j in
    let d = c.unwrap-domain.result in
    let at : slice_get inner j ≡ Some d = sym (inner_at m j c.requires.proper) ∙ cc in
    let count = ap (λ (b : Netlist). length b.domains) c.loop-j.invariant ∙ length-append old.domains (map domain_number (take j inner)) in
    let few : length b.domains < most_nodes = omega (arith, count, length-map (take j inner) domain_number, length-take-le j inner (omega arith)) in
    let judged : judge_node b (domain_number d) ≡ None = node_left b d (domain_number d) (λ i. domain_number d) few in
    c.node.ensures.netlist
    ∙ ap (λ (n : ℕ). after (judge_node b n) b (with_nodes b (n ∷ []))) c.from.ensures
    ∙ ap (λ (o : Option DraftRefusal). after o b (with_nodes b (domain_number d ∷ []))) judged
    ∙ ap (λ (b : Netlist). with_nodes b (domain_number d ∷ [])) c.loop-j.invariant
    ∙ node_more old inner j d at domain_number
