-- What is left of the value, put on the lines that are left, is what is still to be added. There are fewer lines each time.
use lib.Count.{ones_in}
use Rattle.lines.proofs.Spreading.{Spreading}
use Rattle.lines.proofs.scatter.Given as goal

abbrev pub invariant-loop-left : goal.invariant-loop-left
invariant-loop-left l = Spreading l.value l.mask l.spread l.rest l.left

abbrev pub decreases-loop-left : goal.decreases-loop-left
decreases-loop-left l = ones_in 32 l.left
