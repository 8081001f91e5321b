-- `put_change` meets its contract. Assumes nothing.
use Rattle.report.proofs.saying.put_change.Goals as goal

pub returns-in-Alike : goal.returns-in-Alike
returns-in-Alike c = rw c.in-Alike.is c.put.ensures
