-- `put_body` meets its contract: three writers in a row. Assumes nothing.
use Rattle.std.proofs.Common.{arith}
use Rattle.buffer.proofs.Writing.{wrote_then}
use Rattle.report.proofs.body.put_body.Goals as goal

pub returns : goal.returns
returns c =
    let w = wrote_then 0 _ _ _ _ _ _ _ (omega arith) c.put_head-a.ensures c.put-b.ensures in
    wrote_then 0 _ _ _ _ _ _ _ (omega arith) w c.put_ending.ensures
