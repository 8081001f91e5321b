-- `show::put_sheet` is safe and ends: the cursor moves on to the end. Assumes nothing.
use Rattle.std.proofs.Common.{◌-◌}
use Rattle.show.proofs.sheet.put_sheet.Given as goal

abbrev pub decreases-loop-here : goal.decreases-loop-here
decreases-loop-here l = l.end - l.here.at
