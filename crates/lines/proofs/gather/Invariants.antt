-- The lines of the bytes from i up are packed, and stand from byte i up.
use mathlib.Core.Path.{◌≡◌}
use Prim.Native.Nat.{◌*◌, ◌^◌}
use Rattle.lines.proofs.Packing.{bytes_from}
use Rattle.lines.proofs.gather.Given as goal

abbrev pub invariant-loop-i : goal.invariant-loop-i
invariant-loop-i l = l.packed ≡ bytes_from l.sample l.mask l.i * 2 ^ (8 * l.i)
