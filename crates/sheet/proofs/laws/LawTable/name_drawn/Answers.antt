use Rattle.std.proofs.Common.{sym, ap, ◌∙◌}
use Rattle.std.specs.List.{list_all}
use Rattle.netlist.specs.Sound.{names}
use Rattle.sheet.specs.Tiling.{lengths}
use Rattle.sheet.proofs.Cutting.{all_pieces}
use Rattle.sheet.proofs.Sizes.{table_cut}
use Rattle.sheet.proofs.laws.LawTable.name_drawn.Goals as goal

pub returns : goal.returns
returns c =
    let t = c.args.self.now in
    c.name_drawn.ensures ∙ ap (list_all (names c.args.variables)) c.as_slice.ensures.value ∙ sym (all_pieces (names c.args.variables) (lengths t.spans.items) t.terms.items (table_cut t))
