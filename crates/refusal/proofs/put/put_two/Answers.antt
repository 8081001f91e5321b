-- `put_two` meets its contract: one writer after the other. Assumes nothing.
use mathlib.Core.Path.{◌∙◌}
use native.Mathlib.Omega.{arith}
use Rattle.buffer.proofs.Writing.{wrote_then}
use Rattle.refusal.proofs.put.put_two.Goals as goal

pub shape_of-out : goal.shape_of-out
shape_of-out c = c.put.auto.out ∙ c.put-behind.auto.out

pub returns : goal.returns
returns c =
    wrote_then _ _ _ _ _ _ _ _ (omega (arith, c.requires))
    c.put-behind.ensures c.put.ensures
