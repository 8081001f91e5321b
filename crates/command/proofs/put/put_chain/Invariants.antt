-- `command::put_chain` meets its contract. The loop's invariant: the load commands of the words from `i` on are still to be
-- written from `at` on.
-- Assumes nothing.
use Prim.Native.Nat.{◌-◌, ◌≤◌}
use lib.ListN.{length, drop}
use Rattle.buffer.specs.Room.{write}
use Rattle.buffer.proofs.Writing.{Pending}
use Rattle.command.specs.Command.{loads}
use Rattle.command.proofs.put.put_chain.Given as goal

abbrev pub invariant-loop-i : goal.invariant-loop-i
invariant-loop-i l =
    (l.i ≤ length l.words) × Pending l.initial.out (write 5 (loads l.words) l.initial.out) l.at (loads (drop l.i l.words)) l.out

abbrev pub decreases-loop-i : goal.decreases-loop-i
decreases-loop-i l = length l.words - l.i
