-- The laws that a view shows.
use Rattle.std.specs.Prelude.{List, drop}
use Rattle.netlist.specs.declared.terms.Term.{Term}
use Rattle.netlist.specs.Pieces.{pieces}
use Rattle.sheet.specs.declared.views.LawIter.{LawIter}
use Rattle.sheet.specs.declared.views.LawView.{LawView}
use Rattle.sheet.specs.Tiling.{lengths}

abbrev pub laws_in : LawView → List (List Term)
laws_in view = pieces (lengths view.spans.now) view.terms.now

-- the laws that an iterator has left
abbrev pub laws_left : LawIter → List (List Term)
laws_left laws = drop laws.at (laws_in laws.view)
