-- One turn of the loop is a law of proofs/Spreading.
use native.Mathlib.Omega.{arith}
use Rattle.lines.proofs.Drop.{ones_drop}
use Rattle.lines.proofs.Spreading.{some, sum_fits, turn, spread_all}
use Rattle.lines.proofs.scatter.Goals as goal

pub overflow_add-spread : goal.overflow_add-spread
overflow_add-spread c = record { fits = sum_fits _ _ _ _ _ c.loop-left.invariant c.loop-left-test.true }

pub loop-left-smaller : goal.loop-left-smaller
loop-left-smaller c =
    let one = some _ _ _ _ _ c.loop-left.invariant c.loop-left-test.true in
    rw (c.drop_lowest-left.ensures, ones_drop 32 c.loop-left.left) (omega arith)

pub loop-left-preserved : goal.loop-left-preserved
loop-left-preserved c = turn _ _ _ _ _ c.loop-left.invariant c.loop-left-test.true _ c.drop_lowest-left.ensures

pub returns : goal.returns
returns c = spread_all _ _ _ _ _ c.loop-left.invariant c.loop-left-test.false
