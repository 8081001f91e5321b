-- `faults::first_alike` is safe and ends: the cursor moves on to the later record. Assumes nothing.
use Rattle.std.proofs.Common.{◌-◌}
use Rattle.faults.proofs.cursor.first_alike.Given as goal

abbrev pub decreases-loop-here : goal.decreases-loop-here
decreases-loop-here l = l.later.at - l.here.at
