-- `agreement::compare_all` is safe and ends: no more agree than there are cases. Assumes nothing.
use Rattle.std.proofs.Common.{◌≤◌}
use Rattle.agreement.proofs.tally.compare_all.Given as goal

abbrev pub invariant-loop-i : goal.invariant-loop-i
invariant-loop-i l = l.tally.agree ≤ l.i
