-- `put_entries` meets its contract: line after line. Assumes nothing.
use Rattle.std.proofs.Common.{length}
use Rattle.findings.specs.Walk.{lines_at}
use Rattle.report.proofs.Entering.{Entering}
use Rattle.report.proofs.entry.put_entries.Given as goal

abbrev pub invariant-loop-line : goal.invariant-loop-line
invariant-loop-line l = Entering l.old l.new l.olds l.news l.initial.out l.out l.counts l.at l.here

abbrev pub decreases-loop-line : goal.decreases-loop-line
decreases-loop-line l = length (lines_at l.old l.new l.olds l.news l.here)
