-- `sum::operation::op_code` meets its contract: the code is that of the word's first place among those from i on.
-- Assumes nothing.
use Rattle.std.proofs.Common.{◌≡◌, ◌+◌, drop}
use Rattle.sum.specs.Operation.{op_code}
use Rattle.sum.proofs.operation.op_code.Given as goal

abbrev pub invariant-loop-i : goal.invariant-loop-i
invariant-loop-i l = l.code ≡ l.i + op_code (drop l.i l.table) l.word
