-- `gather_walk::voltamar_gather_walk` meets its contract. The loop's invariant: the lines from i up are packed.
-- Assumes nothing.
use mathlib.Core.Path.{refl}
use Prim.Native.Nat.{◌-◌}
use native.Mathlib.Omega.{arith}
use Rattle.lines.specs.Gather.{gathered}
use Rattle.gather_walk.proofs.voltamar_gather_walk.Invariants.{masked, unmasked, whole}
use Rattle.gather_walk.proofs.voltamar_gather_walk.Goals as goal

pub loop-i-init : goal.loop-i-init
unfolding gathered
loop-i-init c = (omega arith, refl)

pub loop-i-preserved-then-line_value-eq1 : goal.loop-i-preserved-then-line_value-eq1
loop-i-preserved-then-line_value-eq1 c = (
  omega arith,
  masked _ _ _ _ _ _ c.loop-i-test.true c.loop-i.invariant.0 c.loop-i.invariant.1
      c.line_value.ensures c.if-line_value-eq1.true c.line_value-then-line_value-eq1.ensures,
)

pub loop-i-preserved : goal.loop-i-preserved
loop-i-preserved c = (
  omega arith,
  unmasked _ _ _ _ _ c.loop-i-test.true c.loop-i.invariant.0 c.loop-i.invariant.1
      c.line_value.ensures c.if-line_value-eq1.false,
)

pub returns : goal.returns
returns c = whole _ _ _ _ (omega arith) c.loop-i.invariant.1
