-- `sum::read_sum` meets its contract: six words are read as their codes. Assumes nothing.
use Rattle.std.proofs.Common.{arith}
use Rattle.std.proofs.lemmas.Grind.{common_steps}
use Rattle.sum.proofs.ReadingBack.{read_meets}
use Rattle.sum.proofs.back.read_sum.Goals as goal

pub returns-in_err-ok : goal.returns-in_err-ok
returns-in_err-ok c = read_meets c.args.words.now c.from_residual.result (grind (arith, common_steps))

pub returns : goal.returns
returns c = read_meets c.args.words.now c.then_some.result (grind (arith, common_steps))
