-- `next_line` meets its contract: section after section, up to the first line. Assumes nothing.
use Rattle.std.proofs.Common.{◌≡◌}
use Rattle.findings.specs.Walk.{lines_at}
use Rattle.findings.proofs.walk.next_line.Given as goal

abbrev pub invariant-loop-section : goal.invariant-loop-section
invariant-loop-section l = record {
  here : l.at.section ≡ l.section;
  same : lines_at l.old l.new l.olds l.news l.fn.from ≡ lines_at l.old l.new l.olds l.news l.at;
}
