use Rattle.std.proofs.Common.{map, sym, arith}
use Rattle.netlist.specs.Domains.{domain_number}
use Rattle.netlist.specs.Sound.{joins}
use Rattle.netlist.proofs.Every.{every_push}
use Rattle.netlist.proofs.Taking.{marked_row}
use Rattle.sheet.specs.Held.{netlist_of}
use Rattle.sheet.proofs.Fitting.{fits_parts}
use Rattle.sheet.proofs.tables.Tables.add_row.Goals as goal

pub invariant_of-self : goal.invariant_of-self
invariant_of-self c =
    let t = c.self.inside in
    let k = c.self.invariant in
    let row = c.args.row in
    let fit = rw (← c.self.view_is) at c.if-not-fits_row.ensures in
    let f = fits_parts (netlist_of t) row (sym fit) in
    let flags = marked_row t.taken.items t.rows.items row (omega (arith, f.flow_drawn)) (omega (arith, f.across_drawn)) f.apart f.flow_free f.across_free k.marked in
    record {
      nodes_fit = k.nodes_fit;
      variables_fit = k.variables_fit;
      rows_fit = (omega arith, omega arith);
      joined = simp c.push_reserved.ensures.items (every_push (joins (map domain_number t.domains.items)) t.rows.items row k.joined f.joins);
      marked = λ v. simp (c.push_reserved.ensures.items, c.flow.ensures, c.across.ensures) (flags v);
      named = k.named;
    }
