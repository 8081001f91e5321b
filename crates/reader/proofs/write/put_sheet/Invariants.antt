-- The sections from the current one on are still to be written from `at` on.
use Rattle.std.proofs.Common.{◌-◌}
use Rattle.buffer.specs.Room.{write}
use Rattle.buffer.proofs.Writing.{Pending}
use Rattle.kinds.specs.Table.{sections}
use Rattle.reader.specs.Taking.{parts_from}
use Rattle.reader.proofs.write.put_sheet.Given as goal

abbrev pub invariant-loop-section : goal.invariant-loop-section
invariant-loop-section l =
    Pending l.initial.out (write 0 (parts_from sections 0 l.room) l.initial.out) l.at (parts_from (sections - l.section) l.section l.room) l.out
