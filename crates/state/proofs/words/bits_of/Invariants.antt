-- `state::words::bits_of` meets its contract: the flags from i on as the bits of a number. Assumes nothing.
use Rattle.std.proofs.Common.{◌≡◌}
use Rattle.state.proofs.Bits.{bits_above}
use Rattle.state.proofs.words.bits_of.Given as goal

abbrev pub invariant-loop-i : goal.invariant-loop-i
invariant-loop-i l = l.bits ≡ bits_above l.flags l.i
