-- `put_names` meets its contract: name after name. Assumes nothing.
use Rattle.std.proofs.Common.{arith}
use borrow.Author.Tests.{ne_eqb}
use Rattle.buffer.proofs.Left.{left_start, left_room, left_turn, left_end}
use Rattle.report.proofs.Naming.{names_most, hit_on, miss_on, names_end}
use Rattle.report.proofs.sources.put_names.Goals as goal
use Rattle.report.proofs.sources.put_names.Goals.{then-bits-eq1, else-bits-eq1}

pub returns-then-pattern-eq0 : goal.returns-then-pattern-eq0
returns-then-pattern-eq0 c = rw c.if-pattern-eq0.true c.put.ensures

pub loop-name-init : goal.loop-name-init
loop-name-init c = left_start _ _ _ (omega (arith, names_most))

pub put-at-requires : goal.put-at-requires
put-at-requires c = left_room _ _ _ _ _ _ c.loop-name.invariant _ _ (hit_on _ _ c.loop-name-test.true c.if-bits-eq1.true)

pub loop-name-preserved : goal.loop-name-preserved
loop-name-preserved c = elim c.if-bits-eq1.branch [
  | then-bits-eq1 w ↦
      rw (w.out-is, w.at-is)
      (left_turn _ _ _ _ _ _ c.loop-name.invariant _ _ _ _ (hit_on _ _ c.loop-name-test.true w.if-bits-eq1.true) w.put-at.ensures)
  | else-bits-eq1 w ↦
      rw (w.out-is, w.at-is) (rw (miss_on c.loop-name.name-index c.loop-name.bits c.loop-name-test.true w.if-bits-eq1.false) at c.loop-name.invariant)
]

pub returns : goal.returns
returns c =
    rw (ne_eqb c.args.pattern 0 c.if-pattern-eq0.false)
    (left_end _ _ _ _ _ _ c.loop-name.invariant (names_end _ _ c.loop-name-test.false))
