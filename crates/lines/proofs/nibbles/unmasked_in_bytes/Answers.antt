-- `lines::nibbles::unmasked_in_bytes` meets its contract. Assumes nothing.
use Rattle.lines.proofs.Unmasked.{unmasked_in_bytes}
use Rattle.lines.proofs.nibbles.unmasked_in_bytes.Goals as goal

pub returns : goal.returns
returns c =
    unmasked_in_bytes c.args.mask c.ranges.mask.fits _ c.closed-pairs.ensures _ _ c.counted.ensures.0 c.counted-2.ensures.0
