-- `lines::rank` meets its contract. Assumes nothing.
use mathlib.Core.Path.{sym}
use native.Mathlib.Nat.{lt_of_lt_of_le}
use lib.Pow.{pow_mono}
use Rattle.lines.proofs.Digit.{shifted_one}
use Rattle.lines.proofs.Ones.{ones_below, ones_in_law}
use Rattle.lines.proofs.rank.Goals as goal

pub returns-then-i-lt32 : goal.returns-then-i-lt32
returns-then-i-lt32 c = rw (shifted_one _ 32 c.if-i-lt32.true) (ones_below c.args.i c.args.mask)

pub returns-else-i-lt32 : goal.returns-else-i-lt32
returns-else-i-lt32 c =
    sym (ones_in_law c.args.i c.args.mask (lt_of_lt_of_le c.ranges.mask.fits (pow_mono c.if-i-lt32.false)))
