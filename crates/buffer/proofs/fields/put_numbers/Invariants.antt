-- `put_numbers` meets its contract. The loop's invariant: the numbers from `i` on are still to be written from `at` on.
-- Assumes nothing.
use Prim.Native.Nat.{◌≤◌, ◌-◌}
use lib.ListN.{length, drop}
use Rattle.buffer.specs.Room.{write}
use Rattle.buffer.proofs.Writing.{Pending}
use Rattle.peek.specs.Fields.{field_bytes}
use Rattle.buffer.proofs.fields.put_numbers.Given as goal

abbrev pub invariant-loop-i : goal.invariant-loop-i
invariant-loop-i l =
    (l.i ≤ length l.numbers) × Pending l.initial.out (write 0 (field_bytes l.numbers) l.initial.out) l.at (field_bytes (drop l.i l.numbers)) l.out

abbrev pub decreases-loop-i : goal.decreases-loop-i
decreases-loop-i l = length l.numbers - l.i
