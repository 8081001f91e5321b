-- `length_of` meets its contract: the table of lengths by one computed test. Assumes nothing.
use Rattle.refusal.proofs.Meanings.{length_at}
use Rattle.refusal.proofs.meaning.length_of.Goals as goal

pub bounds-lengths-row : goal.bounds-lengths-row
bounds-lengths-row c = c.requires

pub returns : goal.returns
returns c = length_at c.args.row c.requires
