-- The rank of a masked line is one of 32.
use Rattle.std.proofs.Common.{arith}
use Rattle.lines.proofs.Ones.{ones_in_le}
use Rattle.lines.proofs.Flip.{rank_lt}
use Rattle.range_telling.specs.Telling.{turn_sample}
use Rattle.range_telling.proofs.telling.turn_sample.Goals as goal

pub turn_value-requires-clause-bit : goal.turn_value-requires-clause-bit
turn_value-requires-clause-bit c =
    omega (arith, rank_lt 32 c.args.i c.args.r.mask c.requires.within c.requires.masked, ones_in_le 32 c.args.r.mask)

pub returns : goal.returns
unfolding turn_sample
returns c = rw (c.scatter.ensures, c.turn_value.ensures, c.rank.ensures)
