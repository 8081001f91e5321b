-- A number that is not odd is even.
use Rattle.std.proofs.Common.{◌≡◌, ◌%◌, arith}
use lib.Bits.{and_mask}
use Rattle.range.proofs.model.table_at.Goals as goal

pub returns-else-i-eq1 : goal.returns-else-i-eq1
returns-else-i-eq1 c = let even : c.args.i % 2 ≡ 0 = omega arith in rw even (and_mask _ 16)
