use Rattle.std.proofs.Common.{◌≡◌, ℕ, true, map, sym, subst}
use Rattle.std.proofs.lemmas.Bool.{and_parts}
use Rattle.std.proofs.lemmas.List.{length-map}
use Rattle.netlist.specs.Netlist.{term_of}
use Rattle.netlist.specs.Sound.{names, is_term_count}
use Rattle.netlist.proofs.Every.{every_append}
use Rattle.sheet.specs.Held.{netlist_of}
use Rattle.sheet.specs.Steps.{have_orders, has_room}
use Rattle.sheet.proofs.Fitting.{law_parts}
use Rattle.sheet.proofs.tables.Tables.add_raw_law.Goals as goal

pub add_raw-requires : goal.add_raw-requires
add_raw-requires c =
    let t = c.self.inside in
    let ts = c.args.terms.now in
    let f = law_parts (netlist_of t) (map term_of ts) (and_parts (have_orders ts) _ (sym (rw (← c.self.view_is) at c.if-not-fits_raw_law.ensures))).1 in
    record {
      room = subst (λ (k : ℕ). has_room (netlist_of t).laws k ≡ true) (length-map ts term_of) f.room;
      count = subst (λ (k : ℕ). is_term_count k ≡ true) (length-map ts term_of) f.count;
      sized = f.sized;
    }

pub invariant_of-self : goal.invariant_of-self
invariant_of-self c =
    let t = c.self.inside in
    let k = c.self.invariant in
    let ts = c.args.terms.now in
    let f = law_parts (netlist_of t) (map term_of ts) (and_parts (have_orders ts) _ (sym (rw (← c.self.view_is) at c.if-not-fits_raw_law.ensures))).1 in
    record {
      nodes_fit = k.nodes_fit;
      variables_fit = k.variables_fit;
      rows_fit = k.rows_fit;
      joined = k.joined;
      marked = k.marked;
      named = simp c.add_raw.ensures.terms (every_append (names t.taken.len) t.laws.terms.items (map term_of ts) k.named f.named);
    }
