-- The loop of `walk` keeps `Walking`, of the run that is under way.
use Rattle.std.proofs.Common.{length}
use Rattle.programme.specs.Table.{plain}
use Rattle.bench.specs.Walk.{run_from}
use Rattle.bench.proofs.Walking.{Walking}
use Rattle.bench.proofs.walk.walk.Given as goal

abbrev pub invariant-loop-sample : goal.invariant-loop-sample
invariant-loop-sample l =
    Walking (plain l.table) l.samples (run_from l.initial.run.state l.initial.run.count l.initial.run.earlier) l.initial.out (length l.yielded) l.n
    (run_from l.run.state l.run.count l.run.earlier) l.out
