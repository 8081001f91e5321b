-- What is left still has to lose as many lines as turns are left, at most.
use Rattle.std.proofs.Common.{◌≡◌, ◌-◌}
use Rattle.range_telling.specs.Reduce.{reduce_from, reduce_of}
use Rattle.range_telling.proofs.reduced.reduce.Given as goal

abbrev pub invariant-loop : goal.invariant-loop
invariant-loop l = reduce_from (32 - l.counter) l.left ≡ reduce_of l.initial.left
