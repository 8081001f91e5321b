-- `put_spaced` meets its contract: a space, then the digits. Assumes nothing.
use Rattle.std.proofs.Common.{arith}
use Rattle.buffer.proofs.Writing.{wrote_then}
use Rattle.notice.proofs.text.put_spaced.Goals as goal

pub returns : goal.returns
returns c = wrote_then _ _ _ _ _ _ _ _ (omega arith) c.put-next.ensures c.put.ensures
