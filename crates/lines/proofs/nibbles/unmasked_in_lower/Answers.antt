-- `lines::nibbles::unmasked_in_lower` meets its contract. Assumes nothing.
use Rattle.lines.proofs.Unmasked.{unmasked_in_lower}
use Rattle.lines.proofs.nibbles.unmasked_in_lower.Goals as goal

pub returns : goal.returns
returns c = unmasked_in_lower c.args.mask c.ranges.mask.fits _ c.closed.ensures _ c.counted.ensures.0
