-- `lines::nibbles::packed_nibbles` meets its contract. Assumes nothing.
use mathlib.Core.Path.{refl}
use Prim.Native.Nat.{◌-◌, ◌/◌}
use native.Mathlib.Omega.{arith}
use Rattle.lines.proofs.Fours.{either_lt, packed_nibbles}
use Rattle.lines.proofs.nibbles.packed_nibbles.Goals as goal

pub overflow_mul-one : goal.overflow_mul-one
overflow_mul-one c = let z = 4294967295 - c.args.mask in record { fits = omega (arith, either_lt z (z / 2)) }

pub returns : goal.returns
returns c = packed_nibbles c.args.mask c.ranges.mask.fits c.args.sample _ _ c.closed-pairs.ensures refl
