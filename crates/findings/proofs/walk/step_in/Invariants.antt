-- `step_in` meets its contract: slot after slot, up to the first line. Assumes nothing.
use Rattle.std.proofs.Common.{◌-◌, ◌≡◌}
use Rattle.records.specs.Sections.{most_of}
use Rattle.findings.specs.Walk.{part_lines}
use Rattle.findings.proofs.walk.step_in.Given as goal

abbrev pub invariant-loop-at : goal.invariant-loop-at
invariant-loop-at l = record {
  most : l.most ≡ most_of l.section;
  here : l.at.section ≡ l.section;
  same : part_lines l.old l.new l.initial.at ≡ part_lines l.old l.new l.at;
}

abbrev pub decreases-loop-at : goal.decreases-loop-at
decreases-loop-at l = l.most - l.at.slot
