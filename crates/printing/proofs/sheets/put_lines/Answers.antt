use Rattle.std.proofs.Common.{◌≤◌, ◌++◌, length, take, get_or, [], sym, ap, ◌∙◌, arith, append_assoc}
use Rattle.std.proofs.lemmas.List.{take_all}
use Rattle.std.specs.List.{flat_map}
use Rattle.netlist.proofs.Joined.{joined_next}
use Rattle.spelling.specs.Lines.{line_text}
use Rattle.equation.specs.Equations.{equations_of}
use Rattle.equation.proofs.Fitting.{line_fits}
use Rattle.equation.proofs.Putting.{length_spans}
use Rattle.printing.proofs.Parts.{drawn, end_within, sliced}
use Rattle.printing.proofs.sheets.put_lines.Goals as goal

pub overflow_add-equation : goal.overflow_add-equation
overflow_add-equation c = omega (arith, end_within c.args.sheet.now c.args.terms.now c.args.spans.now c.loop-span.span-index (record { offset = 0; length = 0 }) c.requires.terms c.requires.spans c.loop-span-test.true)

pub offset_bounds-terms-span : goal.offset_bounds-terms-span
offset_bounds-terms-span c = omega (arith, end_within c.args.sheet.now c.args.terms.now c.args.spans.now c.loop-span.span-index (record { offset = 0; length = 0 }) c.requires.terms c.requires.spans c.loop-span-test.true)

pub slice_bounds-equation-end : goal.slice_bounds-equation-end
slice_bounds-equation-end c = end_within c.args.sheet.now c.args.terms.now c.args.spans.now c.loop-span.span-index (record { offset = 0; length = 0 }) c.requires.terms c.requires.spans c.loop-span-test.true

pub put_line-requires : goal.put_line-requires
put_line-requires c =
    let b = c.args.sheet.now in
    let k = c.loop-span.span-index in
    let is = sliced b c.args.terms.now c.args.spans.now k (record { offset = 0; length = 0 }) c.requires.terms c.requires.spans c.loop-span-test.true in
    let fits = line_fits b c.rows.ensures.sound k (drawn b c.args.terms.now c.args.spans.now k (record { offset = 0; length = 0 }) c.requires.terms c.requires.spans c.loop-span-test.true) in
    rw (c.variables.ensures, is) (omega (arith, c.loop-span.invariant.room, fits))

pub loop-span-preserved : goal.loop-span-preserved
loop-span-preserved c =
    let b = c.args.sheet.now in
    let k = c.loop-span.span-index in
    let is = sliced b c.args.terms.now c.args.spans.now k (record { offset = 0; length = 0 }) c.requires.terms c.requires.spans c.loop-span-test.true in
    let within = drawn b c.args.terms.now c.args.spans.now k (record { offset = 0; length = 0 }) c.requires.terms c.requires.spans c.loop-span-test.true in
    let line = line_text b.variables in
    record {
      room = omega (arith, c.loop-span.invariant.room, c.put_line.auto.buffer);
      printed =
          c.in_ok-put_line.ensures
          ∙ (λ i. c.loop-span.invariant.printed i ++ line_text (c.variables.ensures i) (is i))
          ∙ append_assoc c.args.out.now.items (flat_map line (take k (equations_of b))) (line (get_or (equations_of b) k []))
          ∙ ap (λ xs. c.args.out.now.items ++ xs) (sym (joined_next line (equations_of b) k [] within));
    }

pub returns : goal.returns
returns c =
    let all = equations_of c.args.sheet.now in
    let every : length all ≤ c.loop-span.span-index = omega (arith, c.loop-span-test.false, ap length c.requires.spans, length_spans 0 all) in
    c.loop-span.invariant.printed ∙ ap (λ es. c.args.out.now.items ++ flat_map (line_text c.args.sheet.now.variables) es) (take_all c.loop-span.span-index all every)
