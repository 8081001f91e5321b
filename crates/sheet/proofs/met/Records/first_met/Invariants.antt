-- What is known of the labels that were passed.
use Rattle.sheet.proofs.Marks.{Passed}
use Rattle.sheet.proofs.met.Records.first_met.Given as goal

abbrev pub invariant-loop-done : goal.invariant-loop-done
invariant-loop-done l = Passed l.self.section l.self.start l.self.sheet.now l.marks l.done
