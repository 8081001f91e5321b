-- `put_counts` meets its contract: six writers in a row. Assumes nothing.
use Rattle.std.proofs.Common.{arith}
use Rattle.buffer.proofs.Writing.{wrote_then}
use Rattle.report.proofs.head.put_counts.Goals as goal

pub returns : goal.returns
returns c =
    let a = wrote_then 0 _ _ _ _ _ _ _ (omega arith) c.put_number-a.ensures c.put_number-b.ensures in
    let b = wrote_then 0 _ _ _ _ _ _ _ (omega arith) a c.put_number-c.ensures in
    let d = wrote_then 0 _ _ _ _ _ _ _ (omega arith) b c.put_number-d.ensures in
    let e = wrote_then 0 _ _ _ _ _ _ _ (omega arith) d c.put_number-e.ensures in
    wrote_then 0 _ _ _ _ _ _ _ (omega arith) e c.put.ensures
