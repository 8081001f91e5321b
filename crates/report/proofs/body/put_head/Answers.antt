-- `put_head` meets its contract. Assumes nothing.
use Rattle.report.proofs.Heads.{head_some}
use Rattle.report.proofs.body.put_head.Goals as goal

pub returns-then-entries-eq0 : goal.returns-then-entries-eq0
returns-then-entries-eq0 c = rw c.if-entries-eq0.true c.put_unaltered.ensures

pub returns : goal.returns
returns c = rw (head_some c.args.entries _ c.if-entries-eq0.false) c.put_counts.ensures
