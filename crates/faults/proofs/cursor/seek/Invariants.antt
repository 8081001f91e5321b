-- `faults::seek` is safe and ends: the cursor moves on to the place. Assumes nothing.
use Rattle.std.proofs.Common.{◌-◌}
use Rattle.faults.proofs.cursor.seek.Given as goal

abbrev pub decreases-loop-here : goal.decreases-loop-here
decreases-loop-here l = l.place - l.here.at
