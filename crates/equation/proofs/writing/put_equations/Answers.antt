use Rattle.std.proofs.Common.{ℕ, ◌≤◌, drop, length, refl, ap, ◌∙◌, arith, rules}
use Rattle.std.specs.List.{list_all}
use Rattle.netlist.specs.declared.rows.Row.TheVariants.{Branch}
use Rattle.sheet.specs.Views.{laws_left}
use Rattle.equation.specs.Equations.{equations_of}
use Rattle.equation.specs.Touches.{touches_below}
use Rattle.equation.proofs.NodeSums.{all_below, count}
use Rattle.equation.proofs.Counting.{length_listed}
use Rattle.equation.proofs.Finding.{next_law, no_law_left, next_nodes, next_row}
use Rattle.equation.proofs.Putting.{terms_room, spans_room, one_more, all_terms_room, all_spans_room, all_more, all_terms, all_spans}
use Rattle.equation.proofs.writing.put_equations.Goals as goal

pub list-requires : goal.list-requires
list-requires c =
    let inv = c.loop-law.invariant in
    let n = next_law c.args.sheet.now c.loop-law.lister.listed c.in-Some.law.now (laws_left c.next.new.self) (inv.left ∙ c.in-Some.ensures.steps) in
    record {
      terms_room = terms_room inv.listed c.requires.terms_room c.requires.spans_room n.2;
      spans_room = spans_room inv.listed c.requires.terms_room c.requires.spans_room n.2;
    }

pub loop-law-preserved : goal.loop-law-preserved
loop-law-preserved c =
    let b = c.args.sheet.now in
    let inv = c.loop-law.invariant in
    let n = next_law b c.loop-law.lister.listed c.in-Some.law.now (laws_left c.next.new.self) (inv.left ∙ c.in-Some.ensures.steps) in
    let put = c.list.ensures.put in
    record {
      can_next = tt;
      is_finite = tt;
      same_terms = c.list.ensures.same_terms ∙ inv.same_terms;
      same_spans = c.list.ensures.same_spans ∙ inv.same_spans;
      within = omega (arith, n.0, put.next_span);
      left = ap (λ (k : ℕ). drop k b.laws) put.next_span ∙ n.1;
      listed = one_more inv.listed c.requires.terms_room c.requires.spans_room n.2 put;
    }

pub list_nodes-requires-clause-below : goal.list_nodes-requires-clause-below
list_nodes-requires-clause-below c =
    let b = c.args.sheet.now in
    (λ i. list_all (touches_below (c.nodes.ensures i)) (c.rows-rows.ensures.value i)) ∙ all_below b.domains b.rows c.rows-rows.ensures.sound.joined

pub list_nodes-requires-clause-terms_room : goal.list_nodes-requires-clause-terms_room
list_nodes-requires-clause-terms_room c =
    let n = next_nodes c.args.sheet.now c.loop-law.lister.listed c.nodes.result c.rows-rows.result.now c.nodes.ensures c.rows-rows.ensures.value (no_law_left c.args.sheet.now c.loop-law.lister.listed c.loop-law.invariant.within (c.loop-law.invariant.left ∙ c.in-None.ensures.steps.0)) in
    all_terms_room c.loop-law.invariant.listed c.requires.terms_room c.requires.spans_room n

pub list_nodes-requires-clause-spans_room : goal.list_nodes-requires-clause-spans_room
list_nodes-requires-clause-spans_room c =
    let n = next_nodes c.args.sheet.now c.loop-law.lister.listed c.nodes.result c.rows-rows.result.now c.nodes.ensures c.rows-rows.ensures.value (no_law_left c.args.sheet.now c.loop-law.lister.listed c.loop-law.invariant.within (c.loop-law.invariant.left ∙ c.in-None.ensures.steps.0)) in
    omega (arith, all_spans_room c.loop-law.invariant.listed c.requires.terms_room c.requires.spans_room n, count c.rows-rows.result.now c.nodes.result)

pub loop-row-init : goal.loop-row-init
loop-row-init c =
    let n = next_nodes c.args.sheet.now c.loop-law.lister.listed c.nodes.result c.rows-rows.result.now c.nodes.ensures c.rows-rows.ensures.value (no_law_left c.args.sheet.now c.loop-law.lister.listed c.loop-law.invariant.within (c.loop-law.invariant.left ∙ c.in-None.ensures.steps.0)) in
    let put = c.list_nodes.ensures.put in
    record {
      same_terms = refl;
      same_spans = refl;
      place = omega (arith, put.next_span, no_law_left c.args.sheet.now c.loop-law.lister.listed c.loop-law.invariant.within (c.loop-law.invariant.left ∙ c.in-None.ensures.steps.0), c.nodes.ensures, count c.rows-rows.result.now c.nodes.result);
      listed = all_more c.loop-law.invariant.listed c.requires.terms_room c.requires.spans_room n put;
    }

pub list-requires-in-loop-row : goal.list-requires-in-loop-row
list-requires-in-loop-row c =
    let inv = c.loop-row.invariant in
    let n = next_row c.args.sheet.now c.loop-row.lister.listed c.loop-row.row-index c.variables.result c.rows-rows.result.now (Branch 0 0 0 0) c.terms.result.now c.loop-row-test.true c.rows-rows.ensures.value c.variables.ensures inv.place (c.terms.ensures ∙ c.new.ensures) in
    record {
      terms_room = terms_room inv.listed c.requires.terms_room c.requires.spans_room n;
      spans_room = spans_room inv.listed c.requires.terms_room c.requires.spans_room n;
    }

pub loop-row-preserved : goal.loop-row-preserved
loop-row-preserved c =
    let inv = c.loop-row.invariant in
    let n = next_row c.args.sheet.now c.loop-row.lister.listed c.loop-row.row-index c.variables.result c.rows-rows.result.now (Branch 0 0 0 0) c.terms.result.now c.loop-row-test.true c.rows-rows.ensures.value c.variables.ensures inv.place (c.terms.ensures ∙ c.new.ensures) in
    let put = c.list-in-loop-row.ensures.put in
    record {
      same_terms = c.list-in-loop-row.ensures.same_terms ∙ inv.same_terms;
      same_spans = c.list-in-loop-row.ensures.same_spans ∙ inv.same_spans;
      place = omega (arith, inv.place, put.next_span);
      listed = one_more inv.listed c.requires.terms_room c.requires.spans_room n put;
    }

pub returns : goal.returns
returns c =
    let b = c.args.sheet.now in
    let inv = c.loop-row.invariant in
    let every : length (equations_of b) ≤ c.loop-row.lister.listed = omega (arith, length_listed b.laws b.rows (length b.domains) b.variables, inv.place, ap length c.rows-rows.ensures.value, c.loop-row-test.false) in
    let terms = all_terms inv.listed every in
    let spans = all_spans inv.listed every in
    record { terms = search (rules, terms); spans = search (rules, spans) }
