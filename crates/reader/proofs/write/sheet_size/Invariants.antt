-- What is counted, and what the sections from the current one on have, is all.
use Rattle.std.proofs.Common.{◌≡◌, ◌+◌, ◌-◌, ◌*◌, ◌≤◌, length}
use Rattle.kinds.specs.Table.{sections}
use Rattle.reader.specs.Taking.{parts_from}
use Rattle.reader.proofs.write.sheet_size.Given as goal

abbrev pub invariant-loop-section : goal.invariant-loop-section
invariant-loop-section l =
    (l.size ≤ l.section * 262144) × (l.size + length (parts_from (sections - l.section) l.section l.room) ≡ length (parts_from sections 0 l.room))
