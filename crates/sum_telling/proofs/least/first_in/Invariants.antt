-- `sum_telling::least::first_in` meets its contract: the words from i on are asked. Assumes nothing.
use Rattle.std.proofs.Common.{◌≡◌, ◌-◌, ◌*◌}
use Rattle.sum_telling.specs.Telling.{first_from}
use Rattle.sum_telling.proofs.First.{set_test}
use Rattle.sum_telling.proofs.least.first_in.Given as goal

abbrev pub invariant-loop-i : goal.invariant-loop-i
invariant-loop-i l = l.least ≡ first_from (set_test l.s) (64 * (4 - l.i)) (64 * l.i)
