-- The verdict is that on the sections from the current one on.
use Rattle.std.proofs.Common.{◌≡◌, ◌-◌, drop}
use Rattle.records.specs.Sections.{sections}
use Rattle.sheet.specs.Reading.{sections_verdict, verdict}
use Rattle.sheet.proofs.judge.check.Given as goal

abbrev pub invariant-loop-section : goal.invariant-loop-section
invariant-loop-section l = verdict l.sheet ≡ sections_verdict (sections - l.section) l.section l.at (drop l.at l.sheet)
