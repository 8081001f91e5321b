-- `compare::each_within` meets its contract. The loop's invariant: the bytes from i on decide the answer.
-- Assumes nothing.
use Prim.Native.Nat.{◌≤◌, ◌-◌}
use mathlib.Core.Path.{◌≡◌}
use lib.ListN.{length, drop}
use Rattle.compare.specs.Within.{all_within}
use Rattle.compare.proofs.bounds.each_within.Given as goal

abbrev pub invariant-loop-i : goal.invariant-loop-i
invariant-loop-i l = (l.i ≤ length l.bytes) × (all_within l.low l.high l.bytes ≡ all_within l.low l.high (drop l.i l.bytes))

abbrev pub decreases-loop-i : goal.decreases-loop-i
decreases-loop-i l = length l.bytes - l.i
