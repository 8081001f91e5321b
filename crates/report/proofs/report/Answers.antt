-- `report` meets its contract: of two accepted sheets it is the body. Assumes nothing.
use Rattle.std.proofs.Common.{arith}
use Rattle.buffer.proofs.Writing.{front_text}
use Rattle.report.proofs.Lengths.{entries_most}
use Rattle.report.proofs.Answers.{body_written, reported_done, done_numbered}
use Rattle.report.proofs.report.Goals as goal

pub put_body-requires : goal.put_body-requires
put_body-requires c =
    let s = c.in-Ok.sheets in
    rw (front_text _ _ _ _ c.put_entries-n.ensures.wrote) (omega (arith, entries_most s.old.now s.new.now))

pub returns : goal.returns
returns c =
    let s = c.in-Ok.sheets in
    let n = c.put_entries-n in
    let w = body_written s.old.now s.new.now _ n.result.1 _ _ _ (front_text _ _ _ _ n.ensures.wrote) n.ensures.counted c.put_body.ensures in
    rw (← c.in-Ok.ensures.0, ← c.in-Ok.ensures.1) (record {
      reported = reported_done _ _ _ _ _ s.old_accepted s.new_accepted (omega arith) w;
      report_numbered = done_numbered _ _ _ _ _ s.old_accepted s.new_accepted (omega arith) w;
    })
