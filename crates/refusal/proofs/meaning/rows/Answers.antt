-- `rows` meets its contract: one computed test over the rows. Assumes nothing.
use Rattle.refusal.proofs.Meanings.{row_at}
use Rattle.refusal.proofs.meaning.rows.Goals as goal

pub returns : goal.returns
returns c = row_at
