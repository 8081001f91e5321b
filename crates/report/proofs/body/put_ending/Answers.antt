-- `put_ending` meets its contract: the text is the definition's. Assumes nothing.
use Rattle.report.specs.Words.{ending_text}
use Rattle.report.proofs.body.put_ending.Goals as goal

pub returns : goal.returns
unfolding ending_text
returns c = c.put.ensures
