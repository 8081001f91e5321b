-- `put_entry` meets its contract: three writers in a row. Assumes nothing.
use Rattle.std.proofs.Common.{arith}
use Rattle.buffer.proofs.Writing.{put_wrote, wrote_then}
use Rattle.notice.proofs.Lengths.{line_most}
use Rattle.report.proofs.Lengths.{saying_most}
use Rattle.report.proofs.entry.put_entry.Goals as goal

pub put_saying-b-requires : goal.put_saying-b-requires
put_saying-b-requires c =
    let w = put_wrote _ _ _ _ _ (omega (arith, line_most)) c.put_line-a.ensures in
    omega (arith, line_most, w.next)

pub put_labels-requires : goal.put_labels-requires
put_labels-requires c =
    let w = put_wrote _ _ _ _ _ (omega (arith, line_most)) c.put_line-a.ensures in
    omega (arith, line_most, saying_most, w.next)

pub returns : goal.returns
returns c =
    let w = put_wrote _ _ _ _ _ (omega (arith, line_most)) c.put_line-a.ensures in
    wrote_then _ _ _ _ _ _ _ _ (omega arith) (wrote_then _ _ _ _ _ _ _ _ (omega arith) w c.put_saying-b.ensures) c.put_labels.ensures
