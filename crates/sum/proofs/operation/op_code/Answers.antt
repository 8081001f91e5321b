-- `sum::operation::op_code` meets its contract: the code is that of the word's first place among those from i on.
-- Assumes nothing.
use Rattle.std.proofs.Common.{rules, arith}
use Rattle.sum.proofs.Walk.{code_end}
use Rattle.sum.proofs.operation.op_code.Goals as goal

pub loop-i-init : goal.loop-i-init
loop-i-init c = omega (arith, code_end c.args.table.now c.args.word 10 (search rules))
