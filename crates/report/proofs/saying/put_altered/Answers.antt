-- `put_altered` meets its contract, input by input. Assumes nothing.
use Rattle.std.proofs.Common.{◌≤◌, arith, length}
use Rattle.buffer.proofs.Writing.{wrote_then}
use Rattle.report.proofs.saying.put_altered.Goals as goal

pub returns-in-Sources : goal.returns-in-Sources
returns-in-Sources c =
    let h : c.args.at ≤ length c.args.out.now = omega (arith, c.requires) in
    rw c.in-Sources.is (wrote_then c.args.at _ _ _ _ _ _ _ h c.put_shown-next.ensures c.put_sources.ensures)
