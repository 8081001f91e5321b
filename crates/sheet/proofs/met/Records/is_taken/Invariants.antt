-- None of the records that were compared has the label.
use Rattle.std.proofs.Common.{◌≡◌, false}
use Rattle.sheet.proofs.Labels.{met_by}
use Rattle.sheet.proofs.met.Records.is_taken.Given as goal

abbrev pub invariant-loop-i : goal.invariant-loop-i
invariant-loop-i l = met_by l.label l.self.section l.self.start l.i l.self.sheet.now ≡ false
