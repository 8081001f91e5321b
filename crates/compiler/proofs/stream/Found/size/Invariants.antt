-- The size so far, and what the sections from the current place on take up, are the whole.
use Rattle.std.proofs.Common.{◌≡◌, ◌+◌, ◌*◌, ◌≤◌, length, drop}
use Rattle.sheet.specs.Parsed.{parse}
use Rattle.compiler.specs.Stream.{stream_of}
use Rattle.kinds.specs.Table.{sending_order}
use Rattle.compiler.proofs.Joined.{sent}
use Rattle.compiler.proofs.stream.Found.size.Given as goal

abbrev pub invariant-loop-section : goal.invariant-loop-section
invariant-loop-section l =
    (l.size ≤ l.section-index * 262144)
    × (l.size + length (sent (drop l.section-index sending_order) (parse l.self.sheet.now)) ≡ length (stream_of (parse l.self.sheet.now)))
