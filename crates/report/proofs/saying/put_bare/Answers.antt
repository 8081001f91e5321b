-- `put_bare` meets its contract. Assumes nothing.
use Rattle.std.proofs.Common.{sym}
use Rattle.report.proofs.saying.put_bare.Goals as goal

pub returns-then-is_stated : goal.returns-then-is_stated
returns-then-is_stated c = rw (sym c.if-is_stated.ensures) c.put.ensures

pub returns : goal.returns
returns c = rw (sym c.if-is_stated.ensures) c.put-2.ensures
