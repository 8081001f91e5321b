-- `put_saying` meets its contract, finding by finding. Assumes nothing.
use Rattle.report.proofs.saying.put_saying.Goals as goal

pub returns-in-New : goal.returns-in-New
returns-in-New c = rw c.in-New.is c.put.ensures

pub returns-in-Gone : goal.returns-in-Gone
returns-in-Gone c = rw c.in-Gone.is c.put-in-Gone.ensures

pub returns-in-Name : goal.returns-in-Name
returns-in-Name c = rw c.in-Name.is c.put-in-Name.ensures
