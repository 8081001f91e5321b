-- One turn of the loop is a law of proofs/Packing, at what the three calls ensure.
use mathlib.Core.Path.{refl}
use native.Mathlib.Omega.{arith}
use Rattle.lines.specs.Gather.{gathered}
use Rattle.lines.proofs.Packing.{turn, turn_lt}
use Rattle.lines.proofs.gather.Goals as goal

pub loop-i-init : goal.loop-i-init
unfolding gathered
loop-i-init c = refl

pub overflow_add-packed-in-loop-i : goal.overflow_add-packed-in-loop-i
overflow_add-packed-in-loop-i c =
    record {
      fits = turn_lt _ _ _ _ _ c.unmasked_in_lower-lower.ensures c.unmasked_in_bytes-gaps.ensures c.packed_nibbles-nibbles.ensures
          _ _ c.loop-i-test.true c.loop-i.auto.i c.loop-i.invariant;
    }

pub overflow_add-packed : goal.overflow_add-packed
overflow_add-packed c = let whole = (overflow_add-packed-in-loop-i c).fits in record { fits = omega arith }

pub loop-i-preserved : goal.loop-i-preserved
loop-i-preserved c =
    turn _ _ _ _ _ c.unmasked_in_lower-lower.ensures c.unmasked_in_bytes-gaps.ensures c.packed_nibbles-nibbles.ensures
    _ _ c.loop-i-test.true c.loop-i.auto.i c.loop-i.invariant
