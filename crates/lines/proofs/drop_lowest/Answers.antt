-- `lines::drop_lowest` meets its contract. Assumes nothing.
use mathlib.Core.Path.{sym, ap, ◌∙◌}
use native.Mathlib.Omega.{arith}
use Rattle.lines.specs.Gather.{drop_lowest}
use Rattle.lines.proofs.Drop.{drop_zero, and_pred}
use Rattle.lines.proofs.drop_lowest.Goals as goal

pub returns-then-mask-eq0 : goal.returns-then-mask-eq0
returns-then-mask-eq0 c = sym (ap (drop_lowest 32) c.if-mask-eq0.true ∙ drop_zero 32)

pub returns : goal.returns
returns c = and_pred 32 c.args.mask (omega arith) c.ranges.mask.fits
