-- The items of the sections from the current place on are still to be written from `at` on.
use Rattle.std.proofs.Common.{drop}
use Rattle.buffer.specs.Room.{write}
use Rattle.buffer.proofs.Writing.{Pending}
use Rattle.sheet.specs.Parsed.{parse}
use Rattle.kinds.specs.Table.{sending_order}
use Rattle.compiler.proofs.Joined.{sent}
use Rattle.compiler.proofs.stream.Found.put.Given as goal

abbrev pub invariant-loop-section : goal.invariant-loop-section
invariant-loop-section l =
    Pending l.initial.out (write 0 (sent sending_order (parse l.self.sheet.now)) l.initial.out) l.at
    (sent (drop l.section-index sending_order) (parse l.self.sheet.now)) l.out
