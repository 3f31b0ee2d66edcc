use Rattle.std.proofs.Common.{map, arith, sym}
use Rattle.std.proofs.lemmas.List.{take-map}
use Rattle.netlist.specs.Domains.{domain_number}
use Rattle.sheet.proofs.Cutting.{all_join_cut}
use Rattle.sheet.proofs.tables.Tables.cut_nodes.Goals as goal

pub invariant_of-self : goal.invariant_of-self
invariant_of-self c =
    let t = c.self.inside in
    let k = c.self.invariant in
    let join = all_join_cut c.args.nodes (map domain_number t.domains.items) t.rows.items (sym (rw c.deref.ensures.value at c.if-not-rows_stand_on.ensures)) k.joined in
    record {
      nodes_fit = (omega arith, omega arith);
      variables_fit = k.variables_fit;
      rows_fit = k.rows_fit;
      joined = simp (c.truncate.ensures.items, sym (take-map domain_number c.args.nodes t.domains.items)) join;
      marked = k.marked;
      named = k.named;
    }
