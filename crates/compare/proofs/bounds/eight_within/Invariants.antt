-- `compare::eight_within` meets its contract. The loop's invariant: whether the bytes from i on are within.
-- Assumes nothing.
use Prim.Native.Nat.{◌≤◌}
use mathlib.Core.Path.{◌≡◌}
use lib.ListN.{drop}
use Rattle.compare.specs.Within.{all_within}
use Rattle.compare.proofs.bounds.eight_within.Given as goal

abbrev pub invariant-loop-i : goal.invariant-loop-i
invariant-loop-i l = (l.i ≤ 8) × (l.all ≡ all_within l.low l.high (drop l.i l.bytes))

abbrev pub decreases-loop-i : goal.decreases-loop-i
decreases-loop-i l = l.i
