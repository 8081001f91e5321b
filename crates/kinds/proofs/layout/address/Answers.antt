-- `kinds::address` meets its contract: the one arm that the search leaves. Assumes nothing.
use Rattle.std.proofs.Common.{arith}
use Rattle.kinds.specs.Table.{kind_of, address_of}
use Rattle.kinds.proofs.layout.address.Goals as goal

pub returns-in-2 : goal.returns-in-2
unfolding address_of kind_of
returns-in-2 c = rw c.in-2.is (omega arith)
