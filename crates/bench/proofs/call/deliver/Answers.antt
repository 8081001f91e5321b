-- `deliver` meets its contract: the walk writes right into the lent words. Assumes nothing.
use Rattle.bench.proofs.Calling.{walked_into}
use Rattle.bench.proofs.call.deliver.Goals as goal

pub returns : goal.returns
returns c = walked_into _ _ _ _ _ _ c.walk-walked.ensures c.if-out-samples.false
