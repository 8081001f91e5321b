-- The line's number fits, and XOR with it turns the line over.
use Rattle.lines.proofs.Digit.{shifted_one}
use Rattle.lines.proofs.Flip.{xor_flip}
use Rattle.range_telling.proofs.telling.flip_line.Goals as goal

pub returns : goal.returns
returns c = rw (shifted_one c.args.i 32 c.requires) (xor_flip c.args.i c.args.sample)
