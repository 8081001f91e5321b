-- `put_names` meets its contract: name after name. Assumes nothing.
use Rattle.std.proofs.Common.{drop}
use Rattle.buffer.proofs.Left.{Left}
use Rattle.report.specs.Words.{sources, names_in}
use Rattle.report.proofs.sources.put_names.Given as goal

abbrev pub invariant-loop-name : goal.invariant-loop-name
invariant-loop-name l = Left l.from (names_in sources l.pattern) l.initial.out l.out l.at (names_in (drop l.name-index sources) l.bits)
