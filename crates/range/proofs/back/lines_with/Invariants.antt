-- What is found is the number of the lines from line i up.
use Rattle.std.proofs.Common.{◌≡◌}
use Rattle.range.proofs.Found.{above}
use Rattle.range.proofs.back.lines_with.Given as goal

abbrev pub invariant-loop-i : goal.invariant-loop-i
invariant-loop-i l = l.found ≡ above l.table l.chain l.i
