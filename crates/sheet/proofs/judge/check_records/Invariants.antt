-- What is known of the records that were passed.
use Rattle.std.proofs.Common.{◌≤◌}
use Rattle.sheet.proofs.Behind.{Behind}
use Rattle.sheet.proofs.judge.check_records.Given as goal

abbrev pub invariant-loop-done : goal.invariant-loop-done
invariant-loop-done l = Behind l.section l.count l.start l.sheet l.floor l.done × (l.done ≤ l.repeat)
