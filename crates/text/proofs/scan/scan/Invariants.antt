use Rattle.std.proofs.Common.{◌≡◌, ◌-◌, ◌≤◌, false}
use Rattle.text.specs.Scan.{layout, Gap}
use Rattle.text.proofs.scan.scan.Given as goal

abbrev pub invariant-loop : goal.invariant-loop
invariant-loop l = record {
  same : l.scanner.line.now ≡ l.line;
  on : 1 ≤ l.scanner.at;
  gap : Gap (layout l.shape.kinds.now l.shape.most) l.line l.scanner.at false (layout l.shape.kinds.now (l.shape.most - l.counter));
}
