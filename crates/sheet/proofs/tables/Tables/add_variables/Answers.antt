use Rattle.std.proofs.Common.{◌≡◌, ◌+◌, ◌-◌, ◌++◌, Bool, true, false, List, replicate, sym, subst, ◌∙◌, arith}
use Rattle.std.proofs.lemmas.List.{take_all}
use Rattle.std.specs.Result.{is_ok}
use Rattle.netlist.specs.Flags.{Marked}
use Rattle.sheet.proofs.Variables.{marked_more, named_more}
use Rattle.sheet.proofs.tables.Tables.add_variables.Goals as goal

pub invariant_of-self : goal.invariant_of-self
invariant_of-self c =
    let t = c.self.inside in
    let k = c.self.invariant in
    let n = c.args.count in
    let old = t.taken.items in
    let ok : is_ok c.resize.result ≡ true = c.resize.ensures.succeeds (omega arith) in
    let len = rw ok at c.resize.ensures.len in
    let items = rw ok at c.resize.ensures.items in
    let room = c.if-count-first.false in
    let more : c.len-first.result + n - t.taken.len ≡ n = omega arith in
    let flags = items ∙ (λ i. take_all (c.len-first.result + n) old (omega arith) i ++ replicate (more i) false) in
    record {
      nodes_fit = k.nodes_fit;
      variables_fit = (omega arith, omega arith);
      rows_fit = k.rows_fit;
      joined = k.joined;
      marked = subst (λ (new : List Bool). Marked new t.rows.items) (sym flags) (marked_more n old t.rows.items k.marked);
      named = named_more t.taken.len _ t.laws.terms.items (omega arith) k.named;
    }
