-- `buffer::put_words` meets its contract. The loop's invariant: the bytes from `i` on are still to be written.
-- Assumes nothing.
use Prim.Native.Nat.{◌≤◌, ◌-◌}
use lib.ListN.{length, drop}
use Rattle.buffer.specs.Room.{fill}
use Rattle.buffer.proofs.Writing.{Pending}
use Rattle.buffer.proofs.words.put_words.Given as goal

abbrev pub invariant-loop-i : goal.invariant-loop-i
invariant-loop-i l =
    (l.i ≤ length l.src) × Pending l.initial.out (fill l.src l.initial.out) l.i (drop l.i l.src) l.out

abbrev pub decreases-loop-i : goal.decreases-loop-i
decreases-loop-i l = length l.src - l.i
