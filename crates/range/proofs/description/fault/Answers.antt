use Rattle.range.specs.Description as description
use Rattle.range.proofs.description.fault.Goals as goal

pub returns : goal.returns
unfolding description.fault
returns c = rw c.from_bytes-d.ensures at c.range_fault.ensures
