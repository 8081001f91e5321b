-- `put_number` meets its contract: the text, then the digits, of which there are at most twenty. Assumes nothing.
use Rattle.std.proofs.Common.{arith}
use Rattle.buffer.proofs.Writing.{put_wrote, wrote_then}
use Rattle.report.proofs.Heads.{decimal_short}
use Rattle.report.proofs.put.put_number.Goals as goal

pub returns : goal.returns
returns c =
    let digits = put_wrote _ _ _ _ _ (omega (arith, decimal_short c.args.n)) c.put_decimal.ensures in
    wrote_then _ _ _ _ _ _ _ _ (omega arith) c.put-behind.ensures digits
