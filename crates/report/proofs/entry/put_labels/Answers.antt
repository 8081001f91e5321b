-- `put_labels` meets its contract: five writers in a row. Assumes nothing.
use Rattle.std.proofs.Common.{arith}
use Rattle.buffer.proofs.Writing.{wrote_then}
use Rattle.report.proofs.Lengths.{label_most}
use Rattle.report.proofs.entry.put_labels.Goals as goal

pub returns : goal.returns
returns c =
    let old = wrote_then _ _ _ _ _ _ _ _ (omega arith) c.put-a.ensures c.put_label-b.ensures in
    let new = wrote_then _ _ _ _ _ _ _ _ (omega (arith, label_most)) c.put-c.ensures c.put_label-d.ensures in
    wrote_then _ _ _ _ _ _ _ _ (omega arith) (wrote_then _ _ _ _ _ _ _ _ (omega arith) old new) c.put.ensures
