-- `sources_of` finds the sources from the highest down: those from i up are found.
use Rattle.std.proofs.Common.{◌≡◌}
use Rattle.bench.specs.Asking.{sources_from}
use Rattle.bench.proofs.sources.sources_of.Given as goal

abbrev pub invariant-loop-i : goal.invariant-loop-i
invariant-loop-i l = l.found ≡ sources_from l.table l.earlier l.sample l.i
