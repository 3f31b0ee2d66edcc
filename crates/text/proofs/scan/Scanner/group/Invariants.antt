use Rattle.std.proofs.Common.{◌≡◌, ◌≤◌, List, drop}
use Rattle.text.specs.Scan.{Slot, marked, Gap, no_kinds}
use Rattle.text.proofs.scan.Scanner.group.Given as goal

abbrev pub invariant-loop-kind : goal.invariant-loop-kind
invariant-loop-kind l =
    let start = l.initial.self in
    record {
      same : l.self.line.now ≡ start.line.now;
      on : start.at ≤ l.self.at;
      gap : (all ts : List Slot) → Gap all start.line.now start.at (no_kinds l.kinds) (marked l.kinds ts) → Gap all start.line.now l.self.at (no_kinds (drop l.kind-index l.kinds)) (marked (drop l.kind-index l.kinds) ts);
    }
