-- `put_size` meets its contract: three pieces. Assumes nothing.
use Rattle.std.proofs.Common.{arith}
use Rattle.buffer.proofs.Writing.{put_wrote, wrote_then}
use Rattle.report.proofs.Heads.{decimal_short}
use Rattle.page.proofs.head.put_size.Goals as goal

pub returns : goal.returns
returns c =
    let a = put_wrote _ _ _ _ _ (omega arith) c.put_at-a.ensures in
    let b = put_wrote _ _ _ _ _ (omega (arith, decimal_short)) c.put_decimal-b.ensures in
    let d = put_wrote _ _ _ _ _ (omega (arith, decimal_short)) c.put_at.ensures in
    wrote_then _ _ _ _ _ _ _ _ (omega arith) (wrote_then _ _ _ _ _ _ _ _ (omega arith) a b) d
