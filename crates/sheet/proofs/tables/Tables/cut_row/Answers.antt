use Rattle.std.proofs.Common.{◌≡◌, ◌∷◌, [], ◌++◌, List, ℕ, map, arith, subst}
use Rattle.netlist.specs.declared.rows.Row.{Row}
use Rattle.netlist.specs.Domains.{domain_number}
use Rattle.netlist.specs.Flags.{Marked}
use Rattle.netlist.specs.Sound.{joins}
use Rattle.netlist.proofs.Every.{every_take}
use Rattle.sheet.proofs.Freeing.{last_flow, last_across, marked_less}
use Rattle.sheet.proofs.tables.Tables.cut_row.Goals as goal

pub index_mut-requires : goal.index_mut-requires
index_mut-requires c =
    let t = c.self.inside in
    let items : t.rows.items ≡ c.pop.new.self.items ++ c.in-Some.row ∷ [] = rw c.in-Some.is at c.pop.ensures.items in
    omega (arith, last_flow t.taken.items c.pop.new.self.items c.in-Some.row (subst (λ (rows : List (Row ℕ)). Marked t.taken.items rows) items c.self.invariant.marked))

pub index_mut-requires-in-Some : goal.index_mut-requires-in-Some
index_mut-requires-in-Some c =
    let t = c.self.inside in
    let items : t.rows.items ≡ c.pop.new.self.items ++ c.in-Some.row ∷ [] = rw c.in-Some.is at c.pop.ensures.items in
    omega (arith, last_across t.taken.items c.pop.new.self.items c.in-Some.row (subst (λ (rows : List (Row ℕ)). Marked t.taken.items rows) items c.self.invariant.marked))

pub invariant_of-self : goal.invariant_of-self
invariant_of-self c =
    let t = c.self.inside in
    let k = c.self.invariant in
    let items : t.rows.items ≡ c.pop.new.self.items ++ c.in-Some.row ∷ [] = rw c.in-Some.is at c.pop.ensures.items in
    record {
      nodes_fit = k.nodes_fit;
      variables_fit = k.variables_fit;
      rows_fit = (omega arith, omega arith);
      joined = rw c.pop.ensures.rest (every_take (joins (map domain_number t.domains.items)) _ t.rows.items k.joined);
      marked = λ v. simp (c.flow.ensures, c.across.ensures) (marked_less t.taken.items c.pop.new.self.items c.in-Some.row (subst (λ (rows : List (Row ℕ)). Marked t.taken.items rows) items k.marked) v);
      named = k.named;
    }
