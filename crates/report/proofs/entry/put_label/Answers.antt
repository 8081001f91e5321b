-- `put_label` meets its contract: no record, or its label in quotes. Assumes nothing.
use Rattle.std.proofs.Common.{arith}
use Rattle.buffer.proofs.Writing.{wrote_then}
use Rattle.report.proofs.Lengths.{label_some}
use Rattle.report.proofs.entry.put_label.Goals as goal

pub returns : goal.returns
returns c =
    let w = wrote_then _ _ _ _ _ _ _ _ (omega arith) (wrote_then _ _ _ _ _ _ _ _ (omega arith) c.put-a.ensures c.put-b.ensures) c.put-2.ensures in
    rw (label_some _ c.if-is_empty.ensures) (rw c.label.ensures at w)
