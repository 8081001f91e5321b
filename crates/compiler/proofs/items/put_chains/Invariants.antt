-- The chains from number `i` on are still to be written.
use Rattle.std.proofs.Common.{◌*◌}
use Rattle.buffer.specs.Room.{fill}
use Rattle.buffer.proofs.Writing.{Pending}
use Rattle.compiler.proofs.ItemLaws.{chains_behind}
use Rattle.compiler.proofs.items.put_chains.Given as goal

abbrev pub invariant-loop-i : goal.invariant-loop-i
invariant-loop-i l =
    Pending l.initial.out (fill (chains_behind l.address l.row.chains l.row.each l.words 0) l.initial.out) (l.i * l.size)
    (chains_behind l.address l.row.chains l.row.each l.words l.i) l.out
