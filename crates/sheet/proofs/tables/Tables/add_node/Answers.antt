use Rattle.std.proofs.Common.{map, arith}
use Rattle.std.proofs.lemmas.List.{map_push}
use Rattle.netlist.specs.Domains.{domain_number}
use Rattle.netlist.proofs.Joining.{all_join_node}
use Rattle.sheet.proofs.tables.Tables.add_node.Goals as goal

pub invariant_of-self : goal.invariant_of-self
invariant_of-self c =
    let t = c.self.inside in
    let k = c.self.invariant in
    record {
      nodes_fit = (omega arith, omega arith);
      variables_fit = k.variables_fit;
      rows_fit = k.rows_fit;
      joined = simp (c.push_reserved.ensures.items, map_push) (all_join_node (map domain_number t.domains.items) (domain_number c.args.domain) t.rows.items k.joined);
      marked = k.marked;
      named = k.named;
    }
