use Rattle.std.proofs.Common.{◌≡◌, ℕ, ◌∙◌, true, min, sym, subst, arith}
use Rattle.std.specs.List.{list_all}
use Rattle.std.proofs.lemmas.Bool.{and_parts}
use Rattle.netlist.specs.Sound.{names}
use Rattle.sheet.specs.Held.{laws_of}
use Rattle.sheet.specs.Steps.{has_only}
use Rattle.sheet.specs.Tiling.{lengths}
use Rattle.sheet.proofs.Cutting.{marked_cut, named_cut, all_pieces}
use Rattle.sheet.proofs.Sizes.{table_cut}
use Rattle.sheet.proofs.tables.Tables.cut_variables.Goals as goal

pub invariant_of-self : goal.invariant_of-self
invariant_of-self c =
    let t = c.self.inside in
    let k = c.self.invariant in
    let n = c.args.variables in
    let free = rw (← c.self.view_is) at c.if-not-have_only.ensures in
    let both = and_parts (list_all (has_only n) t.rows.items) (list_all (list_all (names n)) (laws_of t.laws)) (sym free) in
    let named = sym (all_pieces (names n) (lengths t.laws.spans.items) t.laws.terms.items (table_cut t.laws)) ∙ both.1 in
    let left : min n t.taken.len ≡ c.truncate.new.self.len = omega (arith, c.truncate.ensures.len) in
    record {
      nodes_fit = k.nodes_fit;
      variables_fit = (omega (arith, c.truncate.ensures.len), omega (arith, c.truncate.ensures.capacity));
      rows_fit = k.rows_fit;
      joined = k.joined;
      marked = λ v. simp c.truncate.ensures.items (marked_cut n t.taken.items t.rows.items both.0 k.marked v);
      named = subst (λ (m : ℕ). list_all (names m) t.laws.terms.items ≡ true) left (named_cut n t.taken.len t.laws.terms.items named k.named);
    }
