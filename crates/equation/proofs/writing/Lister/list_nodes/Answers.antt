use Rattle.std.proofs.Common.{◌≡◌, ◌+◌, ◌-◌, length, take, drop, refl, ap, ◌∙◌, arith, sym}
use Rattle.std.proofs.lemmas.List.{length-drop, length-take-le}
use Rattle.netlist.specs.Buffers.{written}
use Rattle.netlist.specs.Pieces.{flat}
use Rattle.equation.specs.Equations.{node_sums}
use Rattle.equation.specs.Listing.{spans_from}
use Rattle.equation.proofs.NodeSums.{count}
use Rattle.equation.proofs.Overs.{written_part}
use Rattle.equation.proofs.Putting.{length_spans}
use Rattle.equation.proofs.writing.Lister.list_nodes.Goals as goal

pub returns : goal.returns
returns c =
    let old = c.args.self.now in
    let rows = c.args.rows.now in
    let part = c.args.self.now.listed + c.args.nodes - c.args.self.now.listed in
    let left = drop old.listed old.spans.now in
    let long : length (take part left) ≡ c.args.nodes = omega (arith, length-take-le part left (omega (arith, length-drop old.listed old.spans.now, c.requires.spans_room))) in
    let sums = ap (node_sums rows) long in
    let put = c.put_node_sums-self.ensures in
    let spans = put.spans ∙ ap (spans_from old.written) sums in
    record {
      same_terms = refl;
      same_spans = refl;
      put = record {
        terms = put.terms ∙ ap (λ es. written old.terms.now old.written (flat es)) sums;
        spans =
            written_part old.spans.now c.put_node_sums-self.new.spans old.listed part (omega (arith, ap length spans, length_spans old.written (node_sums rows c.args.nodes), count rows c.args.nodes))
            ∙ ap (written old.spans.now old.listed) spans;
        next_term = put.end ∙ ap (λ es. old.written + length (flat es)) sums;
        next_span = ap (λ n. old.listed + n) (sym (count rows c.args.nodes));
      };
    }
