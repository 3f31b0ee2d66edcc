use Rattle.std.proofs.Common.{sym}
use Rattle.netlist.specs.Sound.{names}
use Rattle.netlist.proofs.Every.{every_append}
use Rattle.sheet.specs.Held.{netlist_of}
use Rattle.sheet.proofs.Fitting.{law_parts}
use Rattle.sheet.proofs.tables.Tables.add_law.Goals as goal

pub invariant_of-self : goal.invariant_of-self
invariant_of-self c =
    let t = c.self.inside in
    let k = c.self.invariant in
    let fit = rw (← c.self.view_is) at c.if-not-fits_law.ensures in
    let f = law_parts (netlist_of t) c.args.terms.now (sym fit) in
    record {
      nodes_fit = k.nodes_fit;
      variables_fit = k.variables_fit;
      rows_fit = k.rows_fit;
      joined = k.joined;
      marked = k.marked;
      named = simp c.add.ensures.terms (every_append (names t.taken.len) t.laws.terms.items c.args.terms.now k.named f.named);
    }
